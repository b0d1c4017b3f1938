-- Accepted files make a machine that keeps the laws; every configuration that its steps reach is valid.
use Prim.Native.Nat.{ℕ, suc}
use mathlib.Core.Path.{◌≡◌, sym, subst}
use mathlib.Core.List.{List, [], ◌∷◌}
use lib.ListN.{length}
use Rattle.base.specs.Lists.{Bytes}
use Rattle.event_log.specs.Log.{Log}
use Rattle.event_log.specs.File.{LogFile, log_of}
use Rattle.formula.specs.Formula.{Formula}
use Rattle.files.specs.Files.{accepted, read_files}
use Rattle.files.proofs.Reading.{files-correct}
use Rattle.runs.specs.Run.{Trail, Follow}
use Rattle.machine.specs.Configuration.{Config, start}
use Rattle.machine.specs.inner.Valid.{Valid}
use Rattle.machine.specs.Machine.{machine}
use Rattle.machine.proofs.Machine.{Premises, valid_start, valid_fire}
use Rattle.machine.proofs.Premises.{premises}

-- two files that are accepted, as a file that records the log and a formula
pub record Accepted (l f : List ℕ) (log : Log) (formula : Formula) : Type 0 where
  pub log_bytes : Bytes l
  pub formula_bytes : Bytes f
  pub file : LogFile
  pub records : log ≡ log_of file
  pub read : read_files l f ≡ accepted file formula

-- accepted files give what the laws need
pub accepted-premises : (l f : List ℕ) (log : Log) (formula : Formula) → Accepted l f log formula → Premises log formula
accepted-premises l f log formula a =
    let t = a.file in
    let ok = files-correct l f a.log_bytes a.formula_bytes t formula a.read in
    subst (λ (g : Log). Premises g formula) (sym a.records)
    (premises (log_of t) formula ok.0.recorded ok.1)

module _ (log : Log) (formula : Formula) (P : Premises log formula) where
  -- what a trail leads to is valid
  follow-valid : (c e : Config) (s : ℕ) (t : Trail) → Valid (length formula.states) c → Follow (machine log formula) c s t e
      → Valid (length formula.states) e
  follow-valid c e s [] v h = subst (Valid (length formula.states)) h v
  follow-valid c e s (x ∷ t) v h = follow-valid h.0 e (suc x.event) t (valid_fire log formula P c h.0 x.event x.step v h.1.fires) h.2

  pub ends-valid : (e : Config) (i : ℕ) (t : Trail) → Follow (machine log formula) start i t e → Valid (length formula.states) e
  ends-valid e i t h = follow-valid start e i t (valid_start (length formula.states) P.some-state) h
