-- Laws of a line's parts: digits, words, a text for each number, and the parts in a row.
use Prim.Native.Nat.{ℕ, zero, suc, ◌+◌, ◌-◌, ◌*◌, ◌/◌, ◌%◌, ◌^◌, ◌<◌, ◌≤◌}
use mathlib.Core.Path.{◌≡◌, refl, ap, sym, ◌∙◌}
use mathlib.Core.Bool.{Bool, true, false, cond}
use mathlib.Core.List.{List, [], ◌∷◌, ◌++◌, append-nil, append_assoc}
use native.Mathlib.Numerals.{add-one}
use native.Mathlib.Nat.{add-zero, suc-mul, le_of_eq, pow-suc}
use native.Mathlib.Omega.{arith}
use lib.ListN.{length, get_or}
use lib.Dec.{eqb, ltb}
use borrow.Author.Tests.{lt-ltb, le-ltb, eq-eqb, ne_eqb}
use Rattle.refusal.specs.declared.Report.{Report}
use Rattle.text.specs.Text.{ascii, digits, decimal, word, spaced, variable, each, held, variables, details, line, refused_line}
use Rattle.text.specs.declared.Page.{Page}
use Rattle.text.specs.inner.Adds.{Adds}
use Rattle.text.specs.inner.Grows.{Grows}
use Rattle.text.proofs.Growing.{nothing, unchanged, behind, further, same_text, same_page}

-- digits: none in no place; a number below 10 is its digit; a greater one has its last digit behind the others
pub no-digits : (p : Page) (k n : ℕ) → k ≡ 0 → Grows k p p (digits k n)
unfolding digits
no-digits p k n e = rw e (unchanged p)

pub one-digit : (k n : ℕ) → n < 10 → 0 < k → (48 + n % 10) ∷ [] ≡ digits k n
unfolding digits
one-digit zero n h p = absurd (omega arith)
one-digit (suc k) n h p = rw (lt-ltb n 10 h)

pub last-digit : (k n : ℕ) → 10 ≤ n → 0 < k → digits (k - 1) (n / 10) ++ ((48 + n % 10) ∷ []) ≡ digits k n
unfolding digits
last-digit zero n h p = absurd (omega arith)
last-digit (suc k) n h p = let e : suc k - 1 ≡ k = omega arith in rw (le-ltb n 10 h, e)

-- places enough give the same digits
same_digits : (j k n : ℕ) → n < 10 ^ j → n < 10 ^ k → 0 < j → 0 < k → digits j n ≡ digits k n
unfolding digits
same_digits zero k n h g p q = absurd (omega arith)
same_digits (suc j) zero n h g p q = absurd (omega arith)
same_digits (suc zero) (suc zero) n h g p q = refl
same_digits (suc zero) (suc (suc k)) n h g p q = rw (lt-ltb n 10 (omega arith))
same_digits (suc (suc j)) (suc zero) n h g p q = rw (lt-ltb n 10 (omega arith))
same_digits (suc (suc j)) (suc (suc k)) n h g p q =
    ap (λ t. cond (ltb n 10) [] t ++ ((48 + n % 10) ∷ []))
    (same_digits (suc j) (suc k) (n / 10) (omega (arith, pow-suc 10 (suc j))) (omega (arith, pow-suc 10 (suc k))) (omega arith) (omega arith))

pub exact-digits : (k n : ℕ) → n < 10 ^ k → 0 < k → n < 2 ^ 64 → digits k n ≡ decimal n
unfolding decimal
exact-digits k n h p f = same_digits k 20 n h (omega arith) p (omega arith)

-- the word of a verdict that is known; any but the first three is rejected
pub known-word : (v k : ℕ) → v ≡ k → ascii " " ++ word k ≡ ascii " " ++ word v
known-word v k e = rw e

pub worded : {p q : Page} {more text : List ℕ} (k : ℕ) → more ≡ text → length text ≤ 9 → text ≡ ascii " " ++ word k
    → Grows (length more) p q more → Grows 9 p q (ascii " " ++ word k)
worded k e h t a = same_page (e ∙ t) (rw e h) a

pub rejected-word : (v : ℕ) → (v ≡ 0 → ⊥) → (v ≡ 1 → ⊥) → (v ≡ 2 → ⊥) → ascii " " ++ word 3 ≡ ascii " " ++ word v
unfolding word
rejected-word zero h k l = absurd (h refl)
rejected-word (suc zero) h k l = absurd (k refl)
rejected-word (suc (suc zero)) h k l = absurd (l refl)
rejected-word (suc (suc (suc v))) h k l = refl

-- a variable that is held, and one that is not
pub held-text : (held : Bool) (v x : ℕ) → held ≡ true → (ascii " v" ++ decimal v) ++ (ascii "=" ++ decimal x) ≡ cond held (variable v x) []
unfolding variable
held-text held v x e = rw (e, append_assoc)

pub unheld-text : (held : Bool) (v x : ℕ) → held ≡ false → [] ≡ cond held (variable v x) []
unheld-text held v x e = rw e

-- a text for each number: none so far; one more at the end; the same of a page
each_none : (text : ℕ → List ℕ) → [] ≡ each text 0 0
unfolding each
each_none text = refl

each_more : (text : ℕ → List ℕ) (k n : ℕ) → each text k n ++ text (n + k) ≡ each text (suc k) n
unfolding each
each_more text zero n = rw (add-zero n) (sym (append-nil (text n)))
each_more text (suc k) n =
    let e : suc n + k ≡ n + suc k = omega arith in
    append_assoc (text n) (each text k (suc n)) (text (n + suc k)) ∙ ap (λ t. text n ++ t) (rw e at (each_more text k (suc n)))

each_next : {more : List ℕ} (text : ℕ → List ℕ) (n : ℕ) → more ≡ text n → each text n 0 ++ more ≡ each text (n + 1) 0
each_next text n e =
    let h : 0 + n ≡ n = omega arith in
    ap (λ t. each text n 0 ++ t) e ∙ rw (add-one n) (rw h at (each_more text n 0))

pub none_yet : (text : ℕ → List ℕ) (before : List ℕ) (at : ℕ) → Adds 0 before at before at (each text 0 0)
none_yet text before at = same_text (each_none text) (omega arith) (nothing before at)

pub one_more : {most at to end : ℕ} {before mid after more : List ℕ} (text : ℕ → List ℕ) (n : ℕ) → more ≡ text n
    → Adds (n * most) before at mid to (each text n 0) → Adds most mid to after end more → Adds ((n + 1) * most) before at after end (each text (n + 1) 0)
one_more {most = most} text n e a b = same_text (each_next text n e) (le_of_eq (rw (add-one n) (sym (suc-mul n most)))) (behind a b)

pub page_yet : (text : ℕ → List ℕ) (p : Page) → Grows 0 p p (each text 0 0)
page_yet text p = same_page (each_none text) (omega arith) (unchanged p)

pub page_more : {most : ℕ} {p q r : Page} {more : List ℕ} (text : ℕ → List ℕ) (n : ℕ) → more ≡ text n
    → Grows (n * most) p q (each text n 0) → Grows most q r more → Grows ((n + 1) * most) p r (each text (n + 1) 0)
page_more {most = most} text n e a b = same_page (each_next text n e) (le_of_eq (rw (add-one n) (sym (suc-mul n most)))) (further a b)

-- the mask's bit for a variable is the lowest of those that are left
pub held-is : (r : List ℕ) (v rest : ℕ) → rest ≡ get_or r 3 0 / 2 ^ v → cond (eqb (rest % 2) 1) (variable v (get_or r (4 + v) 0)) [] ≡ held r v
unfolding held
held-is r v rest e = rw e

-- what stands behind the word; the whole line; a refusal's line
pub no-details : (r : List ℕ) → get_or r 0 0 ≡ 0 → [] ≡ details r
unfolding details
no-details r e = rw (eq-eqb (get_or r 0 0) 0 e)

pub details-text : (r : List ℕ) → (get_or r 0 0 ≡ 0 → ⊥) → (spaced (get_or r 1 0) ++ spaced (get_or r 2 0)) ++ variables r ≡ details r
unfolding details
details-text r h = rw (ne_eqb (get_or r 0 0) 0 h) (simp append_assoc)

pub line-text : (n : ℕ) (r : List ℕ) → ((decimal n ++ (ascii " " ++ word (get_or r 0 0))) ++ details r) ++ ascii "\n" ≡ line n r
unfolding line
line-text n r = simp append_assoc

refused-word : ascii "refused " ≡ ascii "refused" ++ ascii " "
unfolding ascii
refused-word = refl

pub refused-text : (t : Report)
    → (((ascii "refused " ++ decimal t.file) ++ (ascii " " ++ decimal t.number)) ++ (ascii " " ++ decimal t.place)) ++ ascii "\n" ≡ refused_line t
unfolding refused_line spaced
refused-text t = rw refused-word (simp append_assoc)
