-- A thread that may stay and wait is kept where it stands, or behind those kept before it.
use mathlib.Core.Path.{sym, ◌∙◌}
use Rattle.runs.specs.inner.Search as Runs
use Rattle.machine.specs.Machine.{machine}
use Rattle.threads.specs.inner.Setting.{conf}
use Rattle.threads.proofs.Sifting.{remained-kept, remained-dropped, flag-kept, flag-expired, flag-leaves}
use Rattle.threads.proofs.scene.Scene.remain.Goals as goal
use Rattle.threads.proofs.scene.Scene.remain.Goals.{else-stays-via-then-stays+else-hopeful_at, else-stays-via-else-stays}

pub returns-then-hopeful_at : goal.returns-then-hopeful_at
unfolding Runs.hopeful
returns-then-hopeful_at c =
    let a = c.args in
    let z = a.seats in
    let t = a.t.now in
    let x = c.keep_slot in (
      remained-kept z.half z.count a.j t a.work.now x.new.work c.requires.0.1 x.ensures,
      λ g fm s go. flag-kept z.count a.stays (Runs.any_alive (machine g fm) (conf g fm t) a.self.now.moment.number 8) c.if-stays.true
          (sym c.if-hopeful_at.true ∙ c.hopeful_at.ensures g fm s go.fit),
    )

pub returns : goal.returns
unfolding Runs.hopeful
returns c =
    let a = c.args in
    let z = a.seats in
    let t = a.t.now in (
      remained-dropped z.half z.count a.j t a.work.now,
      λ g fm s go.
          let alive = Runs.any_alive (machine g fm) (conf g fm t) a.self.now.moment.number 8 in
          elim c.else-stays.branch [
            | else-stays-via-then-stays+else-hopeful_at q ↦ flag-expired z.count a.stays alive q.if-stays.true
                (sym q.if-hopeful_at.false ∙ q.hopeful_at.ensures g fm s go.fit)
            | else-stays-via-else-stays q ↦ flag-leaves z.count a.stays alive q.if-stays.false
          ],
    )
