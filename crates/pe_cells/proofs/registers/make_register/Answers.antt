use Rattle.std.proofs.Common.{sym}
use Rattle.pe_cells.specs.Functions.{is_short_group}
use Rattle.pe_cells.specs.Kinds.{is_ff}
use Rattle.pe_cells.proofs.Shorts.{found_passes}
use Rattle.pe_cells.proofs.registers.make_register.Goals as goal

pub make_register_of-requires : goal.make_register_of-requires
make_register_of-requires c = found_passes is_short_group is_ff c.args.groups.now c.in-Some.ff.now c.requires (sym c.in-Some.ensures)
