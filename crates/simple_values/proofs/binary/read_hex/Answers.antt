use Rattle.simple_values.proofs.HexPairs.{refused}
use Rattle.simple_values.proofs.binary.read_hex.Goals as goal

pub returns-in-Err-InvalidHexCharacter : goal.returns-in-Err-InvalidHexCharacter
returns-in-Err-InvalidHexCharacter c = refused _ _ (λ e. cc) c.in-Err-InvalidHexCharacter.ensures.err

pub returns-in-Err-OddLength : goal.returns-in-Err-OddLength
returns-in-Err-OddLength c = refused _ _ (λ e. cc) c.in-Err-OddLength.ensures.err

pub returns-in-Err-InvalidStringLength : goal.returns-in-Err-InvalidStringLength
returns-in-Err-InvalidStringLength c = refused _ _ (λ e. cc) c.in-Err-InvalidStringLength.ensures.err
