-- `slots::same_at` meets its contract: the parts are compared one by one, as long as those before are the same.
use Rattle.std.proofs.Common.{◌≡◌, ◌∙◌, sym, Bool, ◌&&◌, get_or, take, drop, map, eqb}
use mathlib.Core.Bool.{beq}
use Rattle.base.specs.Lists.{same_list}
use Rattle.slots.specs.inner.Threads.{same_words}
use Rattle.slots.specs.inner.Words.{is_set, thread_of}
use Rattle.slots.proofs.Comparing.{part-same, and-next, and-stop, in_order}
use borrow.Author.Tests.{eq-eqb, ne_eqb}
use Rattle.slots.proofs.same_at.Goals as goal
use Rattle.slots.proofs.same_at.Goals.{then-part-c, else-part-c, then-eq, else-eq, then-eq-2, else-eq-2}

pub returns-then-eq-3 : goal.returns-then-eq-3
unfolding same_words thread_of
returns-then-eq-3 c =
    let ws = c.args.part.now in
    let d = c.args.c.now in
    let state : Bool = eqb (get_or ws 0 0) d.state in
    let counters : Bool = same_list eqb (take 16 (drop 17 ws)) d.counters in
    let values : Bool = same_list eqb (take 8 (drop 9 ws)) d.values in
    let held : Bool = same_list beq (map is_set (take 8 (drop 1 ws))) d.held in
    let tallies : Bool = same_list eqb (take 12 (drop 33 ws)) d.tallies in
    let one : c.if-part-c.value ≡ (state && counters) = elim c.if-part-c.branch [
      | then-part-c w ↦ and-next _ state counters (eq-eqb _ _ w.if-part-c.true) (w.value-is ∙ part-same eqb _ _ d.counters _ w.eq.ensures w.words_at.ensures)
      | else-part-c w ↦ and-stop _ state counters (ne_eqb _ _ w.if-part-c.false) (w.value-is ∙ ne_eqb _ _ w.if-part-c.false)
    ] in
    let two : c.if-eq.value ≡ ((state && counters) && values) = elim c.if-eq.branch [
      | then-eq w ↦ and-next _ (state && counters) values (sym one ∙ w.if-eq.true)
          (w.value-is ∙ part-same eqb _ _ d.values _ w.eq-then-eq.ensures w.words_at-then-eq.ensures)
      | else-eq w ↦ and-stop _ (state && counters) values (sym one ∙ w.if-eq.false) (w.value-is ∙ w.if-eq.false)
    ] in
    let three : c.if-eq-2.value ≡ (((state && counters) && values) && held) = elim c.if-eq-2.branch [
      | then-eq-2 w ↦ and-next _ ((state && counters) && values) held (sym two ∙ w.if-eq-2.true)
          (w.value-is ∙ part-same beq _ _ d.held _ w.eq-then-eq-2.ensures w.held_in.ensures)
      | else-eq-2 w ↦ and-stop _ ((state && counters) && values) held (sym two ∙ w.if-eq-2.false) (w.value-is ∙ w.if-eq-2.false)
    ] in
    and-next _ (((state && counters) && values) && held) tallies (sym three ∙ c.if-eq-3.true)
    (part-same eqb _ _ d.tallies _ c.eq-then-eq-3.ensures c.words_at-then-eq-3.ensures)
    ∙ in_order state held values counters tallies

pub returns-else-eq-3 : goal.returns-else-eq-3
unfolding same_words thread_of
returns-else-eq-3 c =
    let ws = c.args.part.now in
    let d = c.args.c.now in
    let state : Bool = eqb (get_or ws 0 0) d.state in
    let counters : Bool = same_list eqb (take 16 (drop 17 ws)) d.counters in
    let values : Bool = same_list eqb (take 8 (drop 9 ws)) d.values in
    let held : Bool = same_list beq (map is_set (take 8 (drop 1 ws))) d.held in
    let tallies : Bool = same_list eqb (take 12 (drop 33 ws)) d.tallies in
    let one : c.if-part-c.value ≡ (state && counters) = elim c.if-part-c.branch [
      | then-part-c w ↦ and-next _ state counters (eq-eqb _ _ w.if-part-c.true) (w.value-is ∙ part-same eqb _ _ d.counters _ w.eq.ensures w.words_at.ensures)
      | else-part-c w ↦ and-stop _ state counters (ne_eqb _ _ w.if-part-c.false) (w.value-is ∙ ne_eqb _ _ w.if-part-c.false)
    ] in
    let two : c.if-eq.value ≡ ((state && counters) && values) = elim c.if-eq.branch [
      | then-eq w ↦ and-next _ (state && counters) values (sym one ∙ w.if-eq.true)
          (w.value-is ∙ part-same eqb _ _ d.values _ w.eq-then-eq.ensures w.words_at-then-eq.ensures)
      | else-eq w ↦ and-stop _ (state && counters) values (sym one ∙ w.if-eq.false) (w.value-is ∙ w.if-eq.false)
    ] in
    let three : c.if-eq-2.value ≡ (((state && counters) && values) && held) = elim c.if-eq-2.branch [
      | then-eq-2 w ↦ and-next _ ((state && counters) && values) held (sym two ∙ w.if-eq-2.true)
          (w.value-is ∙ part-same beq _ _ d.held _ w.eq-then-eq-2.ensures w.held_in.ensures)
      | else-eq-2 w ↦ and-stop _ ((state && counters) && values) held (sym two ∙ w.if-eq-2.false) (w.value-is ∙ w.if-eq-2.false)
    ] in
    and-stop _ (((state && counters) && values) && held) tallies (sym three ∙ c.if-eq-3.false) c.if-eq-3.false
    ∙ in_order state held values counters tallies
