use Rattle.std.proofs.Common.{◌≡◌, ◌∙◌}
use Rattle.clr_jobs.proofs.Reporting.{passed_on, path_obeying}
use Rattle.clr_jobs.proofs.plan.plan_facts.Goals as goal

pub returns-clause-plan : goal.returns-clause-plan
returns-clause-plan c =
    let facts = c.facts_of-facts.result in
    let path : facts.path ≡ c.in_ok-found.found.path = c.facts_of-facts.ensures.path in
    let low : facts.low ≡ c.in_ok-found.found.low = c.facts_of-facts.ensures.low in
    let high : facts.high ≡ c.in_ok-found.found.high = c.facts_of-facts.ensures.high in
    let best : facts.best ≡ c.in_ok-found.found.best = c.facts_of-facts.ensures.best in
    let bound : facts.bound ≡ c.in_ok-descent.descent.bound = passed_on facts.bound c.in_ok-descent.descent.bound c.in_ok-descent.ensures.size c.facts_of-facts.ensures.bound in
    let step : facts.at_step ≡ c.in_ok-descent.descent.at_step = c.facts_of-facts.ensures.step in
    let mult = c.in_ok-descent.ensures.mult in
    record {
      bound = rw (step, bound) c.in_ok-descent.ensures.least;
      found = rw (step, path, low, high, best, ← mult) c.in_ok-found.ensures.found;
      exact = c.facts_of-facts.ensures.exact ∙ c.in_ok-exact.ensures.value;
    }

pub returns-clause-sound : goal.returns-clause-sound
returns-clause-sound c =
    let facts = c.facts_of-facts.result in
    let path : facts.path ≡ c.in_ok-found.found.path = c.facts_of-facts.ensures.path in
    let low : facts.low ≡ c.in_ok-found.found.low = c.facts_of-facts.ensures.low in
    let high : facts.high ≡ c.in_ok-found.found.high = c.facts_of-facts.ensures.high in
    let best : facts.best ≡ c.in_ok-found.found.best = c.facts_of-facts.ensures.best in
    let bound : facts.bound ≡ c.in_ok-descent.descent.bound = passed_on facts.bound c.in_ok-descent.descent.bound c.in_ok-descent.ensures.size c.facts_of-facts.ensures.bound in
    record {
      obeying = rw path c.in_ok-found.ensures.obeys;
      interval = rw (path, low, high) c.in_ok-found.ensures.interval;
      best = λ is. rw path (c.in_ok-found.ensures.best (rw best at is));
      tops = rw bound c.in_ok-descent.ensures.tops;
      exact = rw c.facts_of-facts.ensures.exact c.in_ok-exact.ensures.sound;
    }

pub returns-clause-told : goal.returns-clause-told
returns-clause-told c =
    let facts = c.facts_of-facts.result in
    let path : facts.path ≡ c.in_ok-found.found.path = c.facts_of-facts.ensures.path in
    let low : facts.low ≡ c.in_ok-found.found.low = c.facts_of-facts.ensures.low in
    let high : facts.high ≡ c.in_ok-found.found.high = c.facts_of-facts.ensures.high in
    let bound : facts.bound ≡ c.in_ok-descent.descent.bound = passed_on facts.bound c.in_ok-descent.descent.bound c.in_ok-descent.ensures.size c.facts_of-facts.ensures.bound in
    record {
      path = rw path (path_obeying c.args.season.now.rules c.in_ok-found.found.path c.in_ok-found.ensures.obeys);
      low = rw low c.in_ok-found.ensures.size.0;
      high = rw high c.in_ok-found.ensures.size.1;
      bound = rw bound c.in_ok-descent.ensures.size;
      exact = rw c.facts_of-facts.ensures.exact c.in_ok-exact.ensures.told;
      fit = rw c.facts_of-facts.ensures.exact c.in_ok-exact.ensures.fit;
    }
