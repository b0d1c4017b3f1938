-- `lasts_at` meets its contract: a step that is there, and that its bytes keep from expiring.
use Rattle.threads.proofs.Lasting.{is-there}
use Rattle.threads.proofs.table.lasts_at.Goals as goal

pub returns-then-at-f : goal.returns-then-at-f
returns-then-at-f c =
    let a = c.args in
    λ e. record { there = is-there a.f.now a.at c.if-at-f.true.0 c.if-at-f.true.1; alive = c.lasts.ensures e }
