-- Laws of growing a text: nothing added, one part behind another, the same bytes by another name; the same three of a page.
use Prim.Native.Nat.{ℕ, ◌+◌, ◌≤◌}
use mathlib.Core.Path.{◌≡◌, refl, ap, sym, ◌∙◌}
use mathlib.Core.List.{List, [], ◌++◌, append-nil, append_assoc}
use native.Mathlib.Omega.{arith}
use lib.ListN.{length, take}
use lib.Seq.{length-take-le}
use Rattle.text.specs.declared.Page.{Page}
use Rattle.text.specs.inner.Adds.{Adds, Written}
use Rattle.text.specs.inner.Grows.{Grows}

-- nothing is added
pub nothing : (before : List ℕ) (at : ℕ) → Adds 0 before at before at []
nothing before at = record { text = sym (append-nil (take at before)); room = omega arith }

pub unchanged : (p : Page) → Grows 0 p p []
unchanged p = record { adds = nothing p.out.now p.at; bytes = refl; lent = refl }

-- one part, and another behind it
pub behind : {m n at to end : ℕ} {before mid after more rest : List ℕ} → Adds m before at mid to more → Adds n mid to after end rest
    → Adds (m + n) before at after end (more ++ rest)
behind {at = at} {before = before} {more = more} {rest = rest} a b =
    record { text = b.text ∙ ap (λ t. t ++ rest) a.text ∙ append_assoc (take at before) more rest; room = omega (arith, a.room, b.room) }

pub further : {m n : ℕ} {p q r : Page} {more rest : List ℕ} → Grows m p q more → Grows n q r rest → Grows (m + n) p r (more ++ rest)
further a b = record { adds = behind a.adds b.adds; bytes = b.bytes ∙ a.bytes; lent = b.lent ∙ a.lent }

-- the same bytes by another name, with room to spare
pub same_text : {m n at to : ℕ} {before after more bytes : List ℕ} → more ≡ bytes → m ≤ n
    → Adds m before at after to more → Adds n before at after to bytes
same_text {at = at} {before = before} e h a = record { text = a.text ∙ ap (λ t. take at before ++ t) e; room = omega (arith, a.room) }

pub same_page : {m n : ℕ} {p q : Page} {more bytes : List ℕ} → more ≡ bytes → m ≤ n → Grows m p q more → Grows n p q bytes
same_page e h a = record { adds = same_text e h a.adds; bytes = a.bytes; lent = a.lent }

-- a line that begins 256 bytes
pub written : {m to : ℕ} {before after text line : List ℕ} → text ≡ line → to ≤ 256 → length after ≡ 256
    → Adds m before 0 after to text → Written after to line
written {to = to} {after = after} e h n a = record { line = a.text ∙ e; fits = h; bytes = n; counts = sym (length-take-le to after (omega arith)) }
