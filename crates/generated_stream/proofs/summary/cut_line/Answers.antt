use Rattle.generated_stream.proofs.Counting.{one_line, first_line, rest_is_shorter}
use Rattle.generated_stream.proofs.summary.cut_line.Goals as goal

pub returns-in-None : goal.returns-in-None
returns-in-None c = one_line c.args.text.now c.in-None.ensures

pub returns-in-Some : goal.returns-in-Some
returns-in-Some c =
    let found = c.in-Some.ensures in
    record {
      lines_are = first_line c.args.text.now c.in-Some.at found;
      shorter = rest_is_shorter c.args.text.now c.in-Some.at found.0.high;
    }
