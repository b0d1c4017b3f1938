-- A search of a log with clock marks is answered as that of its start's stretch taken as a log of its own, event numbers carried over.
use Prim.Native.Nat.{ℕ, zero, suc, ◌+◌, ◌-◌, ◌<◌, ◌≤◌}
use Rattle.std.specs.Prelude.{Result, Ok, Err}
use mathlib.Core.Path.{◌≡◌, refl, sym, ap, ◌∙◌}
use mathlib.Core.Bool.{Bool, true, false, cond}
use mathlib.Core.List.{List, [], ◌∷◌, map}
use native.Mathlib.Omega.{arith}
use borrow.Author.Tests.{lt-leb}
use lib.ListN.{length, take, length-map}
use lib.Dec.{ltb}
use Rattle.base.specs.Lists.{pad, Bytes}
use Rattle.refusal.specs.declared.Refusal.{Refusal}
use Rattle.refusal.specs.declared.Refusal.TheVariants.{CutShort, Foreign, Value, Surplus, Leftover, StepBack, DeadStart, Unbound, Outside, Short, Crowded, Twice, AbsentState}
use Rattle.event_log.specs.Log.{Log, stretch_at}
use Rattle.event_log.specs.File.{LogFile, log_of}
use Rattle.event_log.specs.Encode.{encode}
use Rattle.event_log.specs.Correct.{Recorded}
use Rattle.event_log.proofs.Stretches.{first_of, Begins, first-begins}
use Rattle.event_log.proofs.OwnFile.{own_file, own-log, own-correct}
use Rattle.event_log.proofs.Accepted.{encoding-is-accepted}
use Rattle.formula.specs.Formula.{Formula}
use Rattle.files.specs.Files.{read_files, accepted}
use Rattle.files.proofs.Reading.{both_read, each, files-correct}
use Rattle.runs.specs.Run.{Trail}
use Rattle.runs.specs.Order.{events}
use Rattle.runs.specs.Answer.{AnswerOver, found, absent, crowded}
use Rattle.runs.specs.inner.Moved.{carried_trail, carried}
use Rattle.runs.specs.inner.Search.{end_of, search}
use Rattle.runs.specs.inner.Laws.{Laws}
use Rattle.runs.proofs.Stretch.{end_after, outside}
use Rattle.runs.proofs.Moved.{numbers-moved}
use Rattle.machine.specs.Configuration.{Config}
use Rattle.machine.specs.Machine.{machine, accepting}
use Rattle.machine.proofs.Alone.{stretch_of, most, within, stretch-recorded, start-there, search-alone}
use Rattle.machine.proofs.Premises.{keeps}
use Rattle.search.specs.declared.SearchAnswer.{SearchAnswer}
use Rattle.search.specs.Search.{slots_of, refusal, answer_of, checked, search_answer}

-- of the refusals only 11 names an event of the log
abbrev pub carried_refusal : ℕ → Refusal → Refusal
carried_refusal b (CutShort f p) = CutShort f p
carried_refusal b (Foreign f p) = Foreign f p
carried_refusal b (Value f p) = Value f p
carried_refusal b (Surplus f p) = Surplus f p
carried_refusal b (Leftover f p) = Leftover f p
carried_refusal b (StepBack p) = StepBack p
carried_refusal b DeadStart = DeadStart
carried_refusal b (Unbound p) = Unbound p
carried_refusal b (Outside s) = Outside s
carried_refusal b (Short n) = Short n
carried_refusal b (Crowded n) = Crowded (b + n)
carried_refusal b (Twice p) = Twice p
carried_refusal b (AbsentState p) = AbsentState p

-- an answer with b added to every event number, unused entries 0
abbrev pub carried_answer : ℕ → Result SearchAnswer Refusal → Result SearchAnswer Refusal
carried_answer b (Err r) = Err (carried_refusal b r)
carried_answer b (Ok s) =
    Ok (record {
      verdict = s.verdict;
      steps = s.steps;
      events = pad 32 0 (map (λ n. b + n) (take s.steps s.events));
      numbers = s.numbers;
      held = s.held;
      values = s.values;
      width = s.width;
    })

pad-carried : (n b : ℕ) (xs : List ℕ) → pad n 0 (map (λ m. b + m) (take (length xs) (pad n 0 xs))) ≡ pad n 0 (map (λ m. b + m) xs)
unfolding pad
pad-carried zero b xs = refl
pad-carried (suc n) b [] = refl
pad-carried (suc n) b (x ∷ xs) = ap (λ l. (b + x) ∷ l) (pad-carried n b xs)

events-carried : (b : ℕ) (t : Trail) → events (carried_trail b t) ≡ map (λ n. b + n) (events t)
events-carried b [] = refl
events-carried b (x ∷ t) = ap (λ l. (b + x.event) ∷ l) (events-carried b t)

answer-carried : (g own : Log) (fm : Formula) (b : ℕ) (a : AnswerOver Config) → answer_of g fm (carried b a) ≡ carried_answer b (answer_of own fm a)
unfolding pad
answer-carried g own fm b (found c t width) =
    let k : length (carried_trail b t) ≡ length t = length-map t _ in
    let l : length (events t) ≡ length t = length-map t _ in
    let es : pad 32 0 (events (carried_trail b t)) ≡ pad 32 0 (map (λ n. b + n) (take (length t) (pad 32 0 (events t)))) =
    ap (pad 32 0) (events-carried b t) ∙ sym (rw l at (pad-carried 32 b (events t))) in
    rw (k, es, numbers-moved b t)
answer-carried g own fm b (absent width) = refl
answer-carried g own fm b (crowded n) = refl

-- A call with an event of a correct log as its start is answered by that event's stretch alone.
pub answered-alone : (g : Log) (fm : Formula) → Recorded g → (i : ℕ) → i < length g.events → (words : ℕ)
    → checked g fm i words ≡ carried_answer (first_of g i) (checked (stretch_of g fm i) fm (i - first_of g i) words)
unfolding checked
answered-alone g fm ok i there words =
    rw (lt-leb (length g.events) i there, lt-leb (length own.events) (i - b) (start-there g fm ok i there), search-alone g fm ok i there (slots_of words))
    (go (ltb words 192))
  where
    b : ℕ
    b = first_of g i

    own : Log
    own = stretch_of g fm i

    a : AnswerOver Config
    a = search (machine own fm) (slots_of words) (i - b)

    go : (t : Bool) → cond t (refusal (Short 192)) (answer_of g fm (carried b a)) ≡ carried_answer b (cond t (refusal (Short 192)) (answer_of own fm a))
    go true = refl
    go false = answer-carried g own fm b a

-- Two accepted files, and an event of the log
module _ (l f : List ℕ) (bytes : Bytes l) (more : Bytes f) (t : LogFile) (fm : Formula) (read : read_files l f ≡ accepted t fm) (i : ℕ)
    (there : i < length (log_of t).events) where
  abbrev g : Log
  g = log_of t

  abbrev b : ℕ
  b = first_of g i

  abbrev e : ℕ
  e = end_of (machine g fm) i

  -- the file of the event's stretch alone
  abbrev pub its_file : LogFile
  its_file = own_file t (stretch_at g i)

  ok : Recorded g
  ok = (files-correct l f bytes more t fm read).0.recorded

  keeps-laws : Laws (machine g fm)
  keeps-laws = keeps g fm ok (files-correct l f bytes more t fm read).1

  begins : Begins g i b
  begins = first-begins g ok i there

  after : i < e
  after = end_after (machine g fm) i there

  behind : (m : ℕ) → e ≤ m → m < length g.events → ¬ (stretch_at g m ≡ stretch_at g i)
  behind m h k q = omega (arith, h, outside (machine g fm) keeps-laws i m (omega (arith, h, after)) k q)

  records : log_of its_file ≡ stretch_of g fm i
  records =
      own-log t (stretch_at g i) b e (omega (arith, begins.least, after)) (most g fm ok i there) begins.other (within g fm ok i there) behind

  -- It is accepted with the same formula,
  pub own_read : read_files (encode its_file) f ≡ accepted its_file fm
  own_read =
      let correct = own-correct t (stretch_at g i) b e (omega (arith, begins.least, after)) (most g fm ok i there) begins.other
      (within g fm ok i there) behind (stretch-recorded g fm ok i there) in
      both_read (encode its_file) f its_file (encoding-is-accepted its_file correct) fm (each l f t fm read).formula_read

  -- and a search is answered by it as by the whole log, event numbers carried over.
  pub file-alone : (words : ℕ) → search_answer l f i words ≡ carried_answer (first_of g i) (search_answer (encode its_file) f (i - first_of g i) words)
  unfolding search_answer
  file-alone words =
      rw (read, own_read) (answered-alone g fm ok i there words ∙ ap (λ x. carried_answer b (checked x fm (i - b) words)) (sym records))
