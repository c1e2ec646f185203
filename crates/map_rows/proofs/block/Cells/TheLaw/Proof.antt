-- A `&` to cells reaches each number.
use denote.Struct.Lending.{of_Lends}
use Rattle.map_rows.specs.contracts.block.Cells as C
use Rattle.map_rows.proofs.block.Cells.TheLaw.Statement.{statement}
use Rattle.map_rows.proofs.Sharing.{cells_lent_laws, Lends-cells}

pub shares : statement
shares = of_Lends C.struct C.the_codes C.the_heap C.the_lent (λ d p. cells_lent_laws d.at d.slots) tt (λ M 𝓤 𝓛 d p. Lends-cells 𝓛 (C.the_row).lives (λ a m. m) d.at d.slots)
