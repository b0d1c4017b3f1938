-- `exports::hikwallu_search` meets its contract: beside a refusal every entry is 0.
use Rattle.std.proofs.Common.{rules}
use Rattle.base.specs.Lists.{pad}
use Rattle.exports.proofs.Numbers.{by-answer}
use Rattle.exports.proofs.hikwallu_search.Goals as goal

pub returns-in-Err : goal.returns-in-Err
unfolding pad
returns-in-Err c =
    let r = c.in-Err.ensures in
    record {
      answer = rw (c.into.ensures, ← r.answer);
      untouched = rw c.into.ensures (by-answer _ _ _ r.untouched);
      number = r.number;
      within = search rules;
    }
