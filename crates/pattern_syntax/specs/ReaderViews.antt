-- What the program's reader stands for.
use Rattle.pattern_syntax.specs.declared.reader.Reader.{Reader}
use Rattle.pattern_syntax.specs.BuiltViews.{built_of}
use Rattle.pattern_syntax.specs.Machine.{State}
use Rattle.pattern_syntax.specs.Stages.{stage_of}
use Rattle.pattern_syntax.specs.Views.{classed_of}

abbrev pub state_of : Reader → State
state_of r = record { stage = stage_of r.mode (classed_of r.class) r.least.items r.most.items r.name.items; built = built_of r.building; noted = r.notes }
