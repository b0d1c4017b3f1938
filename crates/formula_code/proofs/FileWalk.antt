-- The walk over the commands of a file, one command at a time, and the counts on its way.
use Rattle.std.proofs.Common.{◌≡◌, ℕ, zero, suc, ◌+◌, ◌-◌, ◌*◌, ◌<◌, ◌≤◌, Bool, List, length, drop, Option, Some, None, Result, Ok, Err, refl, sym, ap, subst, ◌∙◌, arith, length-append, length-drop, zero-add}
use Rattle.base.specs.Lists.{Bytes}
use Rattle.refusal.specs.declared.Refusal.{Refusal}
use Rattle.formula.specs.Correct.{Exists}
use Rattle.formula.specs.declared.Summary.{Summary}
use Rattle.formula_code.specs.declared.draft.Draft.{Draft}
use Rattle.command_reader.specs.declared.Command.{Command as Kept}
use Rattle.command_reader.specs.declared.Command.TheVariants.{Tied, State, Step, Test, Testv, Bind, Gather, Guard}
use Rattle.command_reader.specs.declared.Taken.{Taken}
use Rattle.formula.specs.Formula.{TEST, TESTV, BIND, GATHER}
use Rattle.formula.specs.Encode.{Command, TIED, STATE, STEP, CLAUSE, GUARD, encode_command}
use Rattle.formula.specs.Read.{Next, command, end, bad, next}
use Rattle.formula.proofs.Basics.{bytes_drop}
use Rattle.formula.proofs.Commands.{Fits, Takes, next-taken}
use Rattle.formula.proofs.Reading.{encode-long}
use Rattle.command_reader.specs.inner.Take.{command_shape, NextEnd, goes_on, ends, breaks, next_end, next_shape}
use Rattle.formula_code.specs.inner.Scan.{Counted, Ready, Within, advance_by, count_with, added, empty_draft, onward, next_from, scan_from, scan_file, Scanned}

-- the counts stay within theirs
pub counted-on : (s : Summary) (c : Kept) → Counted s → Ready s c → Counted (advance_by s c)
counted-on s (Tied v) h r = record { tied = omega (arith, r.0); states = h.states; steps = h.steps; clauses = h.clauses }
counted-on s (State k) h r = record { tied = h.tied; states = omega (arith, r); steps = omega arith; clauses = omega arith }
counted-on s (Step t) h r = record { tied = h.tied; states = h.states; steps = omega (arith, r.1); clauses = omega arith }
counted-on s Test h r = record { tied = h.tied; states = h.states; steps = h.steps; clauses = omega (arith, r.1) }
counted-on s (Testv v) h r = record { tied = h.tied; states = h.states; steps = h.steps; clauses = omega (arith, r.1) }
counted-on s (Bind v) h r = record { tied = h.tied; states = h.states; steps = h.steps; clauses = omega (arith, r.1) }
counted-on s (Gather v) h r = record { tied = h.tied; states = h.states; steps = h.steps; clauses = omega (arith, r.1) }
counted-on s Guard h r = record { tied = h.tied; states = h.states; steps = h.steps; clauses = h.clauses }

-- a new state leaves room for the steps of those before it
room-on : (n c k : ℕ) → c ≤ (n - 1) * 8 + k → k ≤ 8 → (0 < k → 0 < n) → c ≤ (n + 1 - 1) * 8 + 0
room-on zero c zero h l s = omega (arith, h)
room-on zero c (suc k) h l s = absurd (omega (arith, s (omega arith)))
room-on (suc n) c k h l s = omega (arith, h, l)

within_on : (s : Summary) (g : ℕ) (c : Kept) → Counted s → Ready s c → Within s g → Within (advance_by s c) (count_with g c)
within_on s g (Tied v) k r h = record { most = h.most; least = h.least; some = h.some }
within_on s g (State n) k r h = record { most = room-on s.states g s.steps h.most k.steps h.some; least = omega arith; some = λ e. omega arith }
within_on s g (Step t) k r h = record { most = omega (arith, h.most); least = omega (arith, h.least); some = λ e. r.0 }
within_on s g Test k r h = record { most = h.most; least = h.least; some = h.some }
within_on s g (Testv v) k r h = record { most = h.most; least = h.least; some = h.some }
within_on s g (Bind v) k r h = record { most = h.most; least = h.least; some = h.some }
within_on s g (Gather v) k r h = record { most = h.most; least = h.least; some = h.some }
within_on s g Guard k r h = record { most = h.most; least = h.least; some = h.some }

-- what is known of a command that was taken, of what is kept of it
pub record KeptFacts (s : Summary) (c : Kept) (u : ℕ) (bs : List ℕ) : Type 0 where
  pub ready : Ready s c
  pub some : 0 < u
  pub inside : u ≤ length bs

-- of what stands next, and of the places after it
abbrev Known : Summary → List ℕ → NextEnd → Type 0
Known s bs (goes_on c u places) = KeptFacts s c u bs
Known s bs (ends places) = 0 < length bs
Known s bs (breaks r) = Unit {0}

ready-shape : (fields : ℕ) (s : Summary) (c : Command) → Fits s c → Exists fields c → Ready s (command_shape c)
ready-shape fields s (TIED v) f o = (f.1, o)
ready-shape fields s (STATE k) f o = f
ready-shape fields s (STEP t) f o = (f.0, f.2)
ready-shape fields s (CLAUSE (TEST g o x)) f e = (f.0, f.2)
ready-shape fields s (CLAUSE (TESTV g o v)) f e = (f.0, f.2, e.1)
ready-shape fields s (CLAUSE (BIND g v)) f e = (f.0, f.2, e.1)
ready-shape fields s (CLAUSE (GATHER g v)) f e = (f.0, f.2, e.1)
ready-shape fields s (GUARD e) f o = f.0

known-shape : (own : List Bool) (st at : ℕ) (places : List ℕ) (fields : ℕ) (s : Summary) (bs : List ℕ) (x : Next) → Takes fields s bs x
    → Known s bs (next_shape st own at places x)
known-shape own st at places fields s bs (command c u) h =
    let l = ap length h.bytes ∙ length-append (encode_command c) h.behind in
    record { ready = ready-shape fields s c h.fits h.operands; some = omega (arith, h.used, encode-long c); inside = omega (arith, h.used, l) }
known-shape own st at places fields s bs end h = omega (arith, ap length h.bytes)
known-shape own st at places fields s bs (bad r) h = tt

-- the number of steps is that of 16 states with 8 steps at most
pub most-steps : (s : Summary) (c : ℕ) → Counted s → Within s c → c ≤ 128
most-steps s c k h = most s.states c s.steps h.most k.states k.steps
  where
    most : (n c k : ℕ) → c ≤ (n - 1) * 8 + k → n ≤ 16 → k ≤ 8 → c ≤ 128
    most zero c k h m l = omega (arith, h)
    most (suc n) c k h m l = omega (arith, h)

-- what the code reads of a command
abbrev Read : Type 0
Read = Result (Option Taken) Refusal

-- END leaves the places as they are
abbrev Ends : List ℕ → NextEnd → Type 0
Ends places (goes_on c u t) = Unit {0}
Ends places (ends t) = t ≡ places
Ends places (breaks r) = Unit {0}

ends_same : (st : ℕ) (own : List Bool) (at : ℕ) (places : List ℕ) (x : Next) → Ends places (next_shape st own at places x)
ends_same st own at places (command c u) = tt
ends_same st own at places end = refl
ends_same st own at places (bad r) = tt

module _ (fields : ℕ) (l : List ℕ) where
  -- the commands before the draft's place were kept
  pub record SoFar (d : Draft) : Type 0 where
    pub bytes : Bytes l
    pub fuel : ℕ
    pub enough : length l < fuel + d.at
    pub is : scan_file fields l ≡ scan_from fuel fields l d
    pub inside : d.at ≤ length l
    pub counted : Counted d.summary
    pub within : Within d.summary d.count

  pub begin : Bytes l → SoFar empty_draft
  unfolding scan_file empty_draft
  begin b =
      record {
        bytes = b;
        fuel = suc (length l);
        enough = omega arith;
        is = refl;
        inside = omega arith;
        counted = record { tied = omega arith; states = omega arith; steps = omega arith; clauses = omega arith };
        within = record { most = omega arith; least = omega arith; some = λ e. absurd (omega arith) };
      }

  known_next : (d : Draft) → Bytes l → Known d.summary (drop d.at l) (next_from fields l d)
  unfolding next_from
  known_next d b =
      let rest = drop d.at l in
      known-shape d.own (d.summary.states - 1) d.at d.places fields d.summary rest (next fields d.summary d.at rest)
      (next-taken fields d.summary d.at rest (bytes_drop d.at l b))

  scan_step : (fuel : ℕ) (d : Draft) → 0 < fuel → scan_from fuel fields l d ≡ onward (scan_from (fuel - 1) fields l) d (next_from fields l d)
  unfolding scan_from
  scan_step zero d h = absurd (omega arith)
  scan_step (suc n) d h = let e : suc n - 1 ≡ n = omega arith in rw e

  step-on : (d : Draft) (h : SoFar d) (x : NextEnd) → x ≡ next_from fields l d → scan_file fields l ≡ onward (scan_from (h.fuel - 1) fields l) d x
  step-on d h x e = h.is ∙ scan_step h.fuel d (omega (arith, h.enough, h.inside)) ∙ ap (onward (scan_from (h.fuel - 1) fields l) d) (sym e)

  -- what the code reads, r with the places t, stands next: it reads the part of the file behind the draft
  pub record Reads (d : Draft) (r : Read) (t : List ℕ) : Type 0 where
    pub so_far : SoFar d
    pub next : next_end r t ≡ next_from fields l d

  pub reads : (d : Draft) (at : ℕ) (bs : List ℕ) (r : Read) (t : List ℕ) → SoFar d → bs ≡ drop d.at l → at ≡ 0 + d.at
      → next_end r t ≡ next_shape (d.summary.states - 1) d.own at d.places (next fields d.summary at bs) → Reads d r t
  unfolding next_from
  reads d at bs r t h b p e = record { so_far = h; next = e ∙ rw (b, p, zero-add d.at) }

  -- a command: its facts, and the walk goes on behind it
  pub record Goes (d : Draft) (c : Taken) (t : List ℕ) : Type 0 where
    pub facts : KeptFacts d.summary c.command c.used (drop d.at l)
    pub on : SoFar (added d c.command c.used t)

  pub taken : (d : Draft) (r : Read) (x : Option Taken) (c : Taken) (t : List ℕ) → Reads d r t → r ≡ Ok x → x ≡ Some c → Goes d c t
  taken d r x c t h p q =
      let s = h.so_far in
      let e : goes_on c.command c.used t ≡ next_from fields l d = ap (λ y. next_end y t) (sym (p ∙ ap Ok q)) ∙ h.next in
      let k : KeptFacts d.summary c.command c.used (drop d.at l) = subst (Known d.summary (drop d.at l)) (sym e) (known_next d s.bytes) in
      record {
        facts = k;
        on = record {
          bytes = s.bytes;
          fuel = s.fuel - 1;
          enough = omega (arith, s.enough, k.some, s.inside);
          is = step-on d s (goes_on c.command c.used t) e;
          inside = omega (arith, k.inside, s.inside, length-drop d.at l);
          counted = counted-on d.summary c.command s.counted k.ready;
          within = within_on d.summary d.count c.command s.counted k.ready s.within;
        };
      }

  -- END, with the places after it
  pub ended : (d : Draft) (r : Read) (x : Option Taken) (t : List ℕ) → Reads d r t → r ≡ Ok x → x ≡ None → Scanned fields l (Ok (record d { places = t }))
  unfolding next_from
  ended d r x t h p q =
      let s = h.so_far in
      let e : ends t ≡ next_from fields l d = ap (λ y. next_end y t) (sym (p ∙ ap Ok q)) ∙ h.next in
      let same : t ≡ d.places =
      subst (Ends d.places) (sym e) (ends_same (d.summary.states - 1) d.own d.at d.places (next fields d.summary d.at (drop d.at l))) in
      record {
        is = ap (λ z. Ok (record d { places = z })) same ∙ sym (step-on d s (ends t) e);
        sized = record { inside = s.inside; states = s.counted.states; steps = most-steps d.summary d.count s.counted s.within };
      }

  -- a refusal
  pub broke : (d : Draft) (r : Read) (x : Refusal) (t : List ℕ) → Reads d r t → r ≡ Err x → Scanned fields l (Err x)
  broke d r x t h q = record { is = sym (step-on d h.so_far (breaks x) (ap (λ y. next_end y t) (sym q) ∙ h.next)); sized = tt }
