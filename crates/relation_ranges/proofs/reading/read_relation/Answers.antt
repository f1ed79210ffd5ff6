use Rattle.relation_ranges.proofs.reading.read_relation.Goals as goal

pub returns-in-Past : goal.returns-in-Past
returns-in-Past g c =
    let answer = rw (c.in-Past.is, c.past_run-text.ensures.past, c.cut_run.ensures.past) at c.in_ok-version.ensures in
    record {
      relation = record { operator = c.in-Some.operator; version = answer.0.0 };
      reads = record { operator = rw c.cut_run.ensures.run at c.in-Some.ensures; version = answer.0.1 };
      first = answer.1;
    }
