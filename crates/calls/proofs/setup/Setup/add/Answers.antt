use Rattle.std.proofs.Common.{rules, refl}
use Rattle.calls.proofs.setup.Setup.add.Goals as goal

pub returns-in_ok-decode-in-bottom-2 : goal.returns-in_ok-decode-in-bottom-2
returns-in_ok-decode-in-bottom-2 c =
    record {
      ordered = search rules;
      accepts_ordered = search rules;
      scripted = λ _. (c.in_ok-decode-in-bottom-2.field-0, c.in_ok-decode-in-bottom-2.ensures.ok, record { lines = refl; bottom = refl; bad_lines = refl; levels = refl });
      bad = search rules;
      level = search rules;
      others = search rules;
      err = search rules;
    }

pub returns-in_ok-push-in-level : goal.returns-in_ok-push-in-level
returns-in_ok-push-in-level c =
    record {
      ordered = search rules;
      accepts_ordered = search rules;
      scripted = search rules;
      bad = search rules;
      level = λ _. (search rules, search rules, (record { geometry = c.in_ok-geometry-in-level.field-0; rule = c.in_ok-read_rule-in-level.field-0 }, record { sets = search rules; ways = search rules; rule = search rules }, record { lines = refl; bottom = refl; bad_lines = refl; levels = search rules }));
      others = search rules;
      err = search rules;
    }
