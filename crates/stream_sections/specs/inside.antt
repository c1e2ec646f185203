pub mod SchemaTurns
pub mod Beginning
pub mod DocumentTurns
pub mod CommandTurns
