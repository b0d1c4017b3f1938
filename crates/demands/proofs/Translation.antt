-- What the demand on rows says of a start by the search's answer (the page) and by the literal runs (the analysis) is the same, clause by clause.
use Prim.Native.Nat.{ℕ, ◌+◌, ◌≤◌, ◌<◌}
use native.Mathlib.Omega.{arith}
use native.Mathlib.Nat.{lt_trans}
use Rattle.std.specs.Prelude.{Result, Ok, Err, IsOkAnd}
use mathlib.Core.Path.{◌≡◌, refl, sym, ◌∙◌}
use mathlib.Core.Logic.Iff
use mathlib.Core.Logic.{◌↔◌, inl, inr}
use mathlib.Core.Bool.{Bool, true, false}
use mathlib.Core.List.{List}
use lib.ListN.{length, get_or}
use Rattle.event_log.specs.Log.{Log}
use Rattle.formula.specs.Formula.{Formula}
use Rattle.runs.specs.Run.{last}
use Rattle.runs.specs.inner.Search.{search}
use Rattle.runs.specs.Answer.{Answer, found, absent, crowded}
use Rattle.runs.specs.Demand.{FirstCrowded}
use Rattle.runs.specs.inner.Demand as Runs
use Rattle.machine.specs.Firing.{is_held}
use Rattle.machine.specs.Machine.{machine, accepting}
use Rattle.search.specs.declared.Verdict.TheVariants as SearchIs
use Rattle.refusal.specs.declared.Refusal.{Refusal}
use Rattle.search.specs.declared.SearchAnswer.{SearchAnswer}
use Rattle.search.specs.Search.{slots_of}
use Rattle.search.specs.inner.Demand as Search
use Rattle.search.proofs.Premises.{Accepted, accepted-premises}
use Rattle.search.proofs.Demand.{met, third-demand}
use Rattle.analysis.specs.inner.Demand as ByRuns
use Rattle.analysis.proofs.Last.{last-is}
use Rattle.demands.specs.Demands.{Says, tells}
use Rattle.demands.specs.Demands as Page

-- what holds of an answer holds of what it tells
told_so : (P : SearchAnswer → Type 0) (r : Result SearchAnswer Refusal) → IsOkAnd r P → P (tells r)
told_so P (Ok a) h = h
told_so P (Err why) h = absurd h

module _ (l f : List ℕ) (g : Log) (fm : Formula) (words : ℕ) (acc : Accepted l f g fm) (enough : 192 ≤ words) where
  -- the answer from start i, and its least run
  abbrev answer : ℕ → Result SearchAnswer Refusal
  answer i = Page.answer l f words i

  abbrev Least : ℕ → Bool → Type 0
  Least i b = Search.Names g fm (slots_of words) i b

  -- one of three holds of a start: a least run, nothing, crowded
  data Kind (i : ℕ) : Type 0 where
    run : (b : Bool) → Least i b → Kind i
    nothing : Search.Nothing g fm (slots_of words) i → Kind i
    full : (n : ℕ) → FirstCrowded (machine g fm) (slots_of words) i n → Kind i

  -- a start of the log
  module _ (i : ℕ) (h : i < length g.events) where
    kind : Kind i
    kind = go (search (machine g fm) (slots_of words) i) (met g fm (accepted-premises l f g fm acc) (slots_of words) i h)
      where
        go : (a : Answer (machine g fm)) → Runs.Demand (machine g fm) (slots_of words) i a → Kind i
        go (found c t w) d = run (accepting fm c) (record { config = c; trail = t; width = w; named = d; kind = refl })
        go (absent w) d = nothing (record { width = w; absent = d })
        go (crowded n) d = full n d

    -- its answer meets the demand on a search
    told : Search.Demand g fm (slots_of words) i (answer i)
    told = third-demand l f g fm i words acc h enough

    -- crowded
    pub crowded-same : Page.SaysCrowded (answer i) ↔ ByRuns.CrowdedFrom g fm (slots_of words) i
    crowded-same = (λ s. record { event = s.place; crowded = ((told.crowded s.place).0 s.says).here }, λ c. go c kind)
      where
        go : ByRuns.CrowdedFrom g fm (slots_of words) i → Kind i → Page.SaysCrowded (answer i)
        go c (run b n) = absurd (n.named.roomy c.event c.crowded)
        go c (nothing n) = absurd (n.absent.roomy c.event c.crowded)
        go c (full n d) = record { place = n; says = (told.crowded n).1 d }

    -- no run, where the start is not crowded
    none-same : (ByRuns.CrowdedFrom g fm (slots_of words) i → ⊥) → Says (answer i) SearchIs.Absent ↔ ByRuns.NoRun g fm (slots_of words) i
    none-same roomy = (λ e. (told.none.0 e).absent.none, λ z. go z kind)
      where
        go : ByRuns.NoRun g fm (slots_of words) i → Kind i → Says (answer i) SearchIs.Absent
        go z (run b n) = absurd (z n.trail n.config n.named.run)
        go z (nothing n) = told.none.1 n
        go z (full n d) = absurd (roomy (record { event = n; crowded = d.here }))

    -- the named run, accepting or rejecting
    run_out : (b : Bool) → Least i b → Page.NamesRun l f words i
    run_out true n = inl (told.accept.1 n)
    run_out false n = inr (told.reject.1 n)

    run_in : Page.NamesRun l f words i → (b : Bool) × Least i b
    run_in (inl e) = (true, told.accept.0 e)
    run_in (inr e) = (false, told.reject.0 e)

    module _ (b : Bool) (n : Least i b) where
      -- what the answer carries of it, and its last event
      carried : Search.Carries g fm (slots_of words) i (tells (answer i)) n.config n.trail n.width
      carried = told_so (λ a. Search.Carries g fm (slots_of words) i a n.config n.trail n.width) (answer i) (told.run n.config n.trail n.width n.named)

      last-same : Page.last_event l f words i ≡ last n.trail
      last-same = rw (carried.events, carried.steps) (last-is n.trail n.named.run.path.most)

  -- the tie rule of one variable, of the least runs from i and j
  module _ (i j : ℕ) (h : i < length g.events) (k : j < length g.events) (b c : Bool) (n : Least i b) (m : Least j c) (v : ℕ) where
    same_in : Page.SameValue l f words i j v → ByRuns.SameValue n.config m.config v
    same_in o =
        let x = carried i h b n in
        let y = carried j k c m in
        let s = sym (x.held v) ∙ o.earlier_holds in
        let t = sym (y.held v) ∙ o.this_holds in
        record { earlier_holds = s; this_holds = t; one_value = sym (x.values v s) ∙ o.one_value ∙ y.values v t }

    same_out : ByRuns.SameValue n.config m.config v → Page.SameValue l f words i j v
    same_out o =
        let x = carried i h b n in
        let y = carried j k c m in
        record {
          earlier_holds = x.held v ∙ o.earlier_holds;
          this_holds = y.held v ∙ o.this_holds;
          one_value = x.values v o.earlier_holds ∙ o.one_value ∙ sym (y.values v o.this_holds);
        }

  module _ (i : ℕ) (h : i < length g.events) where
    -- an earlier named run overlaps it, with the same tied values; so subsumed, and otherwise an alert
    overlap-same : (b : Bool) (n : Least i b) → Page.Overlapped l f words fm i ↔ ByRuns.Overlapped g fm (slots_of words) i n.config
    overlap-same b n = (into, out)
      where
        into : Page.Overlapped l f words fm i → ByRuns.Overlapped g fm (slots_of words) i n.config
        into o =
            let j = o.start in
            let k = lt_trans o.earlier h in
            let m = run_in j k o.run in
            record {
              start = j;
              earlier = o.earlier;
              accepts = m.0;
              run = m.1;
              overlaps = omega (arith, last-same j k m.0 m.1);
              tied = λ
                  v t. same_in j i k h m.0 b m.1 n v (o.tied v t);
            }

        out : ByRuns.Overlapped g fm (slots_of words) i n.config → Page.Overlapped l f words fm i
        out o =
            let j = o.start in
            let k = lt_trans o.earlier h in
            let m = o.run in
            record {
              start = j;
              earlier = o.earlier;
              run = run_out j k o.accepts m;
              overlaps = omega (arith, last-same j k o.accepts m);
              tied = λ
                  v t. same_out j i k h o.accepts b m n v (o.tied v t);
            }

    alert-same : (Says (answer i) SearchIs.Accept × (Page.Overlapped l f words fm i → ⊥)) ↔ ByRuns.Alert g fm (slots_of words) i
    alert-same = (
      λ a. let n = (told i h).accept.0 a.0 in record { run = n; otherwise = λ o. a.1 ((overlap-same true n).1 o) },
      λ a. ((told i h).accept.1 a.run, λ o. a.otherwise ((overlap-same true a.run).0 o)),
    )

    subsumed-same : (Says (answer i) SearchIs.Accept × Page.Overlapped l f words fm i) ↔ ByRuns.Subsumed g fm (slots_of words) i
    subsumed-same = (
      λ a. let n = (told i h).accept.0 a.0 in record { run = n; by = (overlap-same true n).0 a.1 },
      λ a. ((told i h).accept.1 a.run, (overlap-same true a.run).1 a.by),
    )

    -- the words of a row behind its verdict
    value_out : (r : List ℕ) (b : Bool) (n : Least i b) → ByRuns.Holds r n.config n.trail → (v : ℕ) → v < 8
        → get_or r (4 + v) 0 ≡ get_or (tells (answer i)).values v 0
    value_out r b n x v k = go (is_held n.config v) refl
      where
        go : (p : Bool) → is_held n.config v ≡ p → get_or r (4 + v) 0 ≡ get_or (tells (answer i)).values v 0
        go true p = x.values v k p ∙ sym ((carried i h b n).values v p)
        go false p = x.unheld v k p ∙ sym ((carried i h b n).unused v p)

    holds-in : (r : List ℕ) → Page.RowSays l f words fm i r → (b : Bool) (n : Least i b) → ByRuns.Holds r n.config n.trail
    holds-in r x b n =
        let e = run_out i h b n in
        let c = carried i h b n in
        record {
          last_event = x.names_last_event e ∙ last-same i h b n;
          steps = x.steps e ∙ c.steps;
          mask = λ v k. rw (← c.held v) (x.mask e v k);
          eight_bits = x.eight_bits;
          values = λ v k p. x.values e v k ∙ c.values v p;
          unheld = λ v k p. x.values e v k ∙ c.unused v p;
        }

    -- the row of a start that is not crowded
    module _ (roomy : ByRuns.CrowdedFrom g fm (slots_of words) i → ⊥) (r : List ℕ) where
      bits_out : ByRuns.Row g fm (slots_of words) i r → Kind i → get_or r 3 0 < 256
      bits_out x (run b n) = (x.holds b n).eight_bits
      bits_out x (nothing n) = rw (x.blank n.absent.none) (omega arith)
      bits_out x (full n d) = absurd (roomy (record { event = n; crowded = d.here }))

      pub row_out : ByRuns.Row g fm (slots_of words) i r → Page.RowSays l f words fm i r
      row_out x =
          record {
            twelve = x.twelve;
            none = Iff.trans x.none (Iff.symm (none-same i h roomy));
            alert = Iff.trans x.alert (Iff.symm alert-same);
            subsumed = Iff.trans x.subsumed (Iff.symm subsumed-same);
            rejected = Iff.trans x.rejected (Iff.symm (told i h).reject);
            blank = λ e. x.blank ((none-same i h roomy).0 e);
            names_last_event = λ e. let n = run_in i h e in (x.holds n.0 n.1).last_event ∙ sym (last-same i h n.0 n.1);
            steps = λ e. let n = run_in i h e in (x.holds n.0 n.1).steps ∙ sym (carried i h n.0 n.1).steps;
            mask = λ e v k. let n = run_in i h e in rw ((carried i h n.0 n.1).held v) ((x.holds n.0 n.1).mask v k);
            eight_bits = bits_out x (kind i h);
            values = λ e. let n = run_in i h e in value_out r n.0 n.1 (x.holds n.0 n.1);
          }

      pub row_in : Page.RowSays l f words fm i r → ByRuns.Row g fm (slots_of words) i r
      row_in x =
          record {
            twelve = x.twelve;
            none = Iff.trans x.none (none-same i h roomy);
            alert = Iff.trans x.alert alert-same;
            subsumed = Iff.trans x.subsumed subsumed-same;
            rejected = Iff.trans x.rejected (told i h).reject;
            blank = λ z. x.blank ((none-same i h roomy).1 z);
            holds = holds-in r x;
          }
