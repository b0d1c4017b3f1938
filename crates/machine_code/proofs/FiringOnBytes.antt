-- Firing over the formula's bytes: what each function of the code computes, and that on a step's bytes it is the definition's firing.
use Prim.Native.Nat.{ℕ, suc, ◌+◌, ◌<◌, ◌≤◌, min}
use mathlib.Core.Path.{◌≡◌, refl, ap, sym, ◌∙◌}
use mathlib.Core.Bool.{Bool, true, false, cond}
use mathlib.Core.List.{List, [], ◌∷◌, ◌++◌, append_assoc, append-nil, flat_map, map}
use mathlib.Core.Option.{Option, none, some}
use native.Mathlib.Omega.{arith}
use borrow.Author.Tests.{le-leb, lt-leb, ne_eqb}
use lib.ListN.{length, get_or, drop, replicate, length-drop, length-append}
use Rattle.base.proofs.Lists.{replicate-at}
use Rattle.base.specs.Lists.{All}
use Rattle.event_log.specs.Log.{Kind, Values}
use Rattle.formula.specs.Formula.{Expr, Clause, Step, Formula}
use Rattle.formula.specs.Encode.{CLAUSE, encode_expr, encode_clause, encode_command, guard_commands, step_commands}
use Rattle.machine_code.specs.declared.Configuration.{Configuration}
use Rattle.machine_code.specs.declared.Gained.{Gained}
use Rattle.machine_code.specs.declared.Walked.{Walked}
use Rattle.formula.specs.Lookup.{step_place}
use Rattle.formula.specs.inner.StepBytes.{guard_place}
use Rattle.formula.specs.Correct.{Exists, GuardFits, StepFits}
use Rattle.machine.specs.Configuration.{Config, add_one, list_of}
use Rattle.machine.specs.Guard.{total, guard_holds}
use Rattle.machine.specs.Firing.{bind_all, gather_all, leave, fires, fire}
use Rattle.machine.specs.inner.Valid.{Valid}
use Rattle.machine.specs.inner.Along.{tallies, IsFresh}
use Rattle.machine.specs.Expiry.{rises}
use Rattle.guard_code.specs.inner.Bytes.{leaf_value, guard_at}
use Rattle.machine_code.specs.inner.Bytes.{walked, kept, gained, raised, leaving, guard_behind, fired, begun, is_clause, config_of}
use Rattle.machine.proofs.Configurations.{counter-le-total, add-one-set}
use Rattle.machine.proofs.Walk.{fires-walk, clauses-exist}
use Rattle.machine.proofs.Gathering.{length-gather-all}
use Rattle.machine.proofs.Carried.{carried}
use Rattle.runs.proofs.Moves.{and_both}
use Rattle.guard_code.proofs.GuardOnBytes.{byte_inside, evaluate-encode}
use Rattle.machine_code.proofs.ClausesOnBytes.{clause-low}
use Rattle.machine_code.proofs.WalkOnBytes.{byte-from, first_byte, drop_more, walk_of, walk-encode, walk_at, walk_ends, clauses-length}
use Rattle.machine_code.proofs.WalkOnBytes.{Agrees, Along, along}
use Rattle.machine_code.proofs.GainingOnBytes.{gains-by, gain_all, gain-encode, gain-tallies}

pub fired-out : (f : List ℕ) (at : ℕ) (c : Configuration) (fresh : List Bool) (event : Values) → length f ≤ at
    → record { fires = false; config = c } ≡ fired f at c fresh event
unfolding fired
fired-out f at c fresh event h = rw (le-leb (length f) at h)

-- inside the file: the guard decides where every test passes
module _ (f : List ℕ) (at : ℕ) (c : Configuration) (fresh : List Bool) (event : Values) (in-file : at < length f) where
  pub fired-failed : (walked f at c (replicate 8 false) event).passes ≡ false
      → record { fires = false; config = c } ≡ fired f at c fresh event
  unfolding fired
  fired-failed h = rw (lt-leb (length f) at in-file, h)

  pub fired-guard : (w : Walked) (counters : List ℕ) (t : ℕ) (g : Gained) (b : Bool) → w ≡ walked f at c (replicate 8 false) event → w.passes ≡ true
      → counters ≡ raised c.counters c.state → t ≡ get_or f (at + 1) 0
      → g ≡ cond w.gathers (gained f at c.tallies fresh (replicate 8 false) event) (kept c.tallies) → b ≡ guard_behind f w counters g.tallies
      → record { fires = b; config = leaving t w counters g.tallies } ≡ fired f at c fresh event
  unfolding fired
  fired-guard w counters t g b walk h raise target e q =
      let p = gains-by f at c fresh (replicate 8 false) event w g walk e in
      rw (lt-leb (length f) at in-file, ← walk, ← p, ← raise, ← target, h, q)

-- a step's bytes, and those of its guard
abbrev pub step_bytes : Step → List ℕ
step_bytes s = flat_map encode_command (step_commands s)

abbrev pub guard_bytes : Option Expr → List ℕ
guard_bytes none = []
guard_bytes (some g) = 0x15 ∷ encode_expr g

clause-bytes : (ks : List Clause) (g : Option Expr) → flat_map encode_command (map CLAUSE ks ++ guard_commands g) ≡ flat_map encode_clause ks ++ guard_bytes g
unfolding flat_map guard_commands encode_command
clause-bytes [] none = refl
clause-bytes [] (some g) = append-nil (0x15 ∷ encode_expr g)
clause-bytes (k ∷ ks) g = rw (clause-bytes ks g, append_assoc (encode_clause k) (flat_map encode_clause ks) (guard_bytes g))

-- The bytes at an offset are those of a correct step, and behind them stands neither a clause's command nor a GUARD: "10 STATE, 11 STEP, 00 END".
pub record StepAt (fields : ℕ) (f : List ℕ) (at : ℕ) (s : Step) : Type 0 where
  pub after : List ℕ
  pub bytes : drop at f ≡ step_bytes s ++ after
  pub ends : get_or after 0 0 < 0x12
  pub exist : All (Exists fields) (step_commands s)
  pub fits : StepFits s

-- The configuration is one that a run reaches: "1 to 16 states", and no counter is full.
pub record Ready (c : Configuration) : Type 0 where
  pub held_8 : length c.held ≡ 8
  pub values_8 : length c.values ≡ 8
  pub counters_16 : length c.counters ≡ 16
  pub declared : c.state < 16
  pub below : get_or c.counters c.state 0 < 4294967295

-- a valid configuration with few steps taken is ready
pub ready : (states : ℕ) (ls : List (List ℕ)) (c : Configuration) → Valid states (config_of ls c) → states ≤ 16 → total c.counters < 4294967295 → Ready c
ready states ls c v h k = record {
  held_8 = v.held_8;
  values_8 = v.values_8;
  counters_16 = v.counters_16;
  declared = omega (arith, v.declared);
  below = omega (arith, counter-le-total c.counters c.state);
}

-- The lists of the configuration, what it holds of them, and what is known of the values that a step would gather.
pub record Carries (fields : ℕ) (ls : List (List ℕ)) (c : Configuration) (event : Values) (fresh : List Bool) : Type 0 where
  pub few : fields ≤ 8
  pub four : length ls ≡ 4
  pub short : (v : ℕ) → v < 4 → length (list_of ls v) < 4294967295
  pub tallied : c.tallies ≡ tallies ls
  pub new : IsFresh ls event fresh

pub raised-one : (c : Configuration) → Ready c → raised c.counters c.state ≡ add_one c.counters c.state
unfolding raised
raised-one c r =
    let e : min (get_or c.counters c.state 0 + 1) 4294967295 ≡ get_or c.counters c.state 0 + 1 = omega (arith, r.below) in
    rw (e, add-one-set c.counters c.state (omega (arith, r.counters_16, r.declared)))

pub guard-exists : (m : ℕ) (ks : List Clause) (g : Option Expr) → All (Exists m) (map CLAUSE ks ++ guard_commands g) → All (Exists m) (guard_commands g)
guard-exists m [] g h = h
guard-exists m (k ∷ ks) g h = guard-exists m ks g h.1

-- what the bytes of a step say of its parts
module _ (fields : ℕ) (f : List ℕ) (at : ℕ) (s : Step) (h : StepAt fields f at s) where
  pub inside : at < length f
  unfolding step_commands encode_command flat_map
  inside = byte_inside f at 0x11 (sym (first_byte f _ at h.bytes)) (omega arith)

  pub target-byte : get_or f (at + 1) 0 ≡ s.target
  unfolding step_commands encode_command flat_map
  target-byte = byte-from f _ at 1 h.bytes

  pub behind-step : drop (at + 2) f ≡ flat_map encode_clause s.clauses ++ (guard_bytes s.guard ++ h.after)
  unfolding step_commands encode_command flat_map
  behind-step =
      drop_more f (0x11 ∷ s.target ∷ []) (flat_map encode_command (map CLAUSE s.clauses ++ guard_commands s.guard) ++ h.after) at h.bytes
      ∙ ap (λ (x : List ℕ). x ++ h.after) (clause-bytes s.clauses s.guard)
      ∙ append_assoc (flat_map encode_clause s.clauses) (guard_bytes s.guard) h.after

  -- no clause's command stands behind the clauses
  clauses-end : (g : Option Expr) → is_clause (get_or (guard_bytes g ++ h.after) 0 0) ≡ false
  unfolding is_clause
  clauses-end none = sym (clause-low (get_or h.after 0 0) h.ends)
  clauses-end (some g) = refl

  clauses-fit : length s.clauses ≤ suc (length f)
  clauses-fit =
      let e = ap length behind-step in
      omega (arith, clauses-length s.clauses, length-drop (at + 2) f, length-append (flat_map encode_clause s.clauses) (guard_bytes s.guard ++ h.after))

  pub parts-exist : All (Exists fields) (map CLAUSE s.clauses ++ guard_commands s.guard)
  unfolding step_commands
  parts-exist = h.exist.1

  -- the walk over the step's bytes is the walk over its clauses
  pub walked-encode : (c : Configuration) (rising : List Bool) (event : Values)
      → walked f at c rising event ≡ walk_of f c.values rising event (begun at c) s.clauses
  unfolding walked begun
  walked-encode c rising event =
      walk-encode f c.values rising event fields (suc (length f)) (begun at c) s.clauses (guard_bytes s.guard ++ h.after) behind-step
      (clauses-end s.guard) (clauses-exist fields s.clauses s.guard parts-exist) clauses-fit

  -- and it ends where the guard begins
  pub walked-ends : (c : Configuration) (rising : List Bool) (event : Values)
      → drop (walked f at c rising event).at f ≡ guard_bytes s.guard ++ h.after
  unfolding begun
  walked-ends c rising event =
      ap (λ (w : Walked). drop w.at f) (walked-encode c rising event)
      ∙ walk_ends f c.values rising event (begun at c) s.clauses (guard_bytes s.guard ++ h.after) behind-step

  -- The walk finds the guard of step k of state i: it ends at the guard's place.
  pub walked-place : (formula : Formula) (i k : ℕ) → at ≡ step_place formula i k → (c : Configuration) (rising : List Bool) (event : Values)
      → (walked f at c rising event).at ≡ guard_place formula i k s
  unfolding begun guard_place
  walked-place formula i k e c rising event =
      omega (arith, e, ap (λ (w : Walked). w.at) (walked-encode c rising event), walk_at f c.values rising event (begun at c) s.clauses)

  -- what its bytes gather is what its clauses do
  pub gained-encode : (ts : List ℕ) (fresh rising : List Bool) (event : Values)
      → gained f at ts fresh rising event ≡ gain_all f fresh rising event (kept ts) s.clauses
  unfolding gained
  gained-encode ts fresh rising event =
      gain-encode f fresh rising event fields (suc (length f)) (at + 2) (kept ts) s.clauses (guard_bytes s.guard ++ h.after) behind-step
      (clauses-end s.guard) (clauses-exist fields s.clauses s.guard parts-exist) clauses-fit

  -- the guard that begins at an offset has the value of the step's guard, in any configuration
  pub guard-encode : (g : Option Expr) (p : ℕ) (d : Config) → drop p f ≡ guard_bytes g ++ h.after → length d.lists ≡ 4
      → All (Exists fields) (guard_commands g) → GuardFits g
      → guard_at (leaf_value d.values d.counters (tallies d.lists)) f p ≡ guard_holds d g
  unfolding guard_at guard_commands
  guard-encode none p d e n x y =
      let b : get_or f p 0 ≡ get_or h.after 0 0 = first_byte f h.after p e in
      rw (b, ne_eqb (get_or h.after 0 0) 0x15 (λ q. omega (arith, h.ends)))
  guard-encode (some g) p c e n x y =
      let b : get_or f p 0 ≡ 0x15 = first_byte f _ p e in
      let d : drop (p + 1) f ≡ encode_expr g ++ h.after = drop_more f (0x15 ∷ []) (encode_expr g ++ h.after) p e in
      let v = evaluate-encode c n g 8 x.0 y.1 h.after in
      rw (b, d, v)

  -- the walk over the step's bytes binds, passes and is due as the definition says
  pub walked-along : (field_kinds : List Kind) (rising : List Bool) → ((g : ℕ) → get_or rising g false ≡ rises field_kinds g)
      → (ls : List (List ℕ)) (c : Configuration) (event : Values)
      → Along field_kinds (config_of ls c) (config_of ls c) event s.clauses (begun at c) (walked f at c rising event)
  unfolding begun
  walked-along field_kinds rising kept ls c event =
      rw (walked-encode c rising event)
      (along f field_kinds rising kept (config_of ls c) event s.clauses (config_of ls c) (begun at c) (record { held = refl; values = refl }))

  -- its bytes leave the tallies of the lists with what the clauses gather
  pub gained-tallies : (ls : List (List ℕ)) (c : Configuration) (fresh rising : List Bool) (event : Values) → Carries fields ls c event fresh
      → (gained f at c.tallies fresh rising event).tallies ≡ tallies (gather_all ls event s.clauses)
  unfolding kept
  gained-tallies ls c fresh rising event k =
      let x = clauses-exist fields s.clauses s.guard parts-exist in
      rw (gained-encode c.tallies fresh rising event, gain-tallies f fresh rising event s.clauses (kept c.tallies), k.tallied)
      (carried fields event ls fresh k.few k.new k.short s.clauses k.four h.fits.once x)

  -- the guard behind the walk, with what it has bound, what is gathered and the counters raised, is the step's guard in the configuration that it leaves
  pub guard-left : (ls : List (List ℕ)) (c : Configuration) (fresh rising : List Bool) (event : Values) → Ready c → Carries fields ls c event fresh
      → Agrees (walked f at c rising event) (bind_all (config_of ls c) event s.clauses)
      → guard_behind f (walked f at c rising event) (raised c.counters c.state) (gained f at c.tallies fresh rising event).tallies
      ≡ guard_holds (leave (config_of ls c) s event) s.guard
  unfolding leave
  guard-left ls c fresh rising event r k a =
      let x = guard-exists fields s.clauses s.guard parts-exist in
      let n : length (gather_all ls event s.clauses) ≡ 4 = length-gather-all ls event s.clauses ∙ k.four in
      let w = walked f at c rising event in
      let g = guard-encode s.guard w.at (leave (config_of ls c) s event) (walked-ends c rising event) n x h.fits.guard in
      rw (a.values, raised-one c r, gained-tallies ls c fresh rising event k) g

-- A step's bytes fire exactly where the step does, and then leave the configuration that it leaves, with the tallies of its lists.
pub record FiresAs (f : List ℕ) (at : ℕ) (ls : List (List ℕ)) (c : Configuration) (s : Step) (fresh : List Bool) (event : Values) : Type 0 where
  pub fires-as : (fired f at c fresh event).fires ≡ fires (config_of ls c) s event
  pub leaves-as : (fired f at c fresh event).fires ≡ true
      → config_of (gather_all ls event s.clauses) (fired f at c fresh event).config ≡ leave (config_of ls c) s event
  pub tallied : (fired f at c fresh event).fires ≡ true → (fired f at c fresh event).config.tallies ≡ tallies (gather_all ls event s.clauses)

-- one that fires passes
fired-passes : (f : List ℕ) (at : ℕ) (c : Configuration) (fresh : List Bool) (event : Values) → at < length f → (fired f at c fresh event).fires ≡ true
    → (walked f at c (replicate 8 false) event).passes ≡ true
unfolding fired
fired-passes f at c fresh event h q = (and_both _ _ (rw (lt-leb (length f) at h) at q)).0

module _ (fields : ℕ) (f : List ℕ) (at : ℕ) (ls : List (List ℕ)) (c : Configuration) (s : Step) (fresh : List Bool) (event : Values)
    (h : StepAt fields f at s) (r : Ready c) (k : Carries fields ls c event fresh) where
  pub fire-encode : FiresAs f at ls c s fresh event
  unfolding fired leave begun
  fire-encode =
      let a = walked-along fields f at s h [] (replicate 8 false) (λ g. replicate-at 8 g false) ls c event in
      let g = guard-left fields f at s h ls c fresh (replicate 8 false) event r k a.agrees in
      let i = lt-leb (length f) at (inside fields f at s h) in
      let t = target-byte fields f at s h in
      let p = fires-walk (config_of ls c) s event (record { held_8 = r.held_8; values_8 = r.values_8 }) in
      let l = fired-passes f at c fresh event (inside fields f at s h) in
      record {
        fires-as = rw (i, g, a.passing, p);
        leaves-as = λ q. rw (i, l q, t, a.agrees.held, a.agrees.values, raised-one c r);
        tallied = λ q. rw (i, l q) (gained-tallies fields f at s h ls c fresh (replicate 8 false) event k);
      }

  -- The same as an answer: what the step leaves, if it fires.
  pub fire-answer : fire (config_of ls c) s event
      ≡ cond (fired f at c fresh event).fires (some (config_of (gather_all ls event s.clauses) (fired f at c fresh event).config)) none
  unfolding fire
  fire-answer = rw (← fire-encode.fires-as) (go (fired f at c fresh event).fires refl)
    where
      go : (b : Bool) → (fired f at c fresh event).fires ≡ b → cond b (some (leave (config_of ls c) s event)) none
          ≡ cond b (some (config_of (gather_all ls event s.clauses) (fired f at c fresh event).config)) none
      go true q = ap some (sym (fire-encode.leaves-as q))
      go false q = refl
