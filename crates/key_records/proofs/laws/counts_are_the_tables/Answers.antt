use Rattle.std.proofs.Common.{◌≡◌}
use Rattle.key_records.proofs.ViewLaws.{visible-is, counted-twice, twice-there}
use Rattle.key_records.proofs.laws.counts_are_the_tables.Goals as goal

pub returns : goal.returns
returns c = record {
  visible = λ names t identities own n under e below here all k tuple. visible-is names t identities own k tuple n under e below here all;
  repeated = λ tuples. (counted-twice tuples, λ there. twice-there there.0 tuples there.1);
}
