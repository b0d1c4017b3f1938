-- One step more: a run that it ends is kept if it is the first or comes before the best so far.
use mathlib.Core.Path.{refl, sym, ◌∙◌}
use Rattle.threads.proofs.Endings.{better-past, better-silent, better-first, better-earlier, better-kept}
use Rattle.threads.proofs.Waiting.{move-final}
use Rattle.threads.proofs.scene.Scene.better.Goals as goal

pub returns-then-not-ends_by : goal.returns-then-not-ends_by
returns-then-not-ends_by c =
    let a = c.args in
    let t = a.t.now in
    λ g fm s go ok.
    better-past g fm a.best.now ok t a.self.now.moment.number a.k (λ d e. c.ends_by.ensures g fm s c.requires t refl go.fit d e ∙ c.if-not-ends_by.true)

pub returns-in_default : goal.returns-in_default
returns-in_default c =
    let a = c.args in
    λ g fm s go ok. better-silent g fm a.best.now ok a.t.now a.self.now.moment.number a.k (c.in_default.ensures g fm s go)

pub returns-then-not-later : goal.returns-then-not-later
returns-then-not-later c =
    let a = c.args in
    let t = a.t.now in
    let n = a.self.now.moment.number in
    let m = c.in-Some.thread in
    λ g fm s go ok.
    let h = c.in-Some.ensures g fm s go in
    let ends = move-final g fm t n a.k m h (λ d e. c.ends_by.ensures g fm s c.requires t refl go.fit d e ∙ c.if-not-ends_by.false) in
    better-kept g fm a.best.now ok t n a.k m h ends c.in-Some-best.least c.in-Some-best.is (sym c.later.ensures ∙ c.if-not-later.true)

pub returns-else-not-later : goal.returns-else-not-later
returns-else-not-later c =
    let a = c.args in
    let t = a.t.now in
    let n = a.self.now.moment.number in
    let m = c.in-Some.thread in
    λ g fm s go ok.
    let h = c.in-Some.ensures g fm s go in
    let ends = move-final g fm t n a.k m h (λ d e. c.ends_by.ensures g fm s c.requires t refl go.fit d e ∙ c.if-not-ends_by.false) in
    better-earlier g fm a.best.now ok t n a.k m h ends c.in-Some-best.least c.in-Some-best.is (sym c.later.ensures ∙ c.if-not-later.false)

pub returns-in_default-best : goal.returns-in_default-best
returns-in_default-best c =
    let a = c.args in
    let t = a.t.now in
    let n = a.self.now.moment.number in
    let m = c.in-Some.thread in
    λ g fm s go ok.
    let h = c.in-Some.ensures g fm s go in
    let ends = move-final g fm t n a.k m h (λ d e. c.ends_by.ensures g fm s c.requires t refl go.fit d e ∙ c.if-not-ends_by.false) in
    better-first g fm a.best.now ok t n a.k m h ends c.in_default-best.is
