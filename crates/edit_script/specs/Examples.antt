-- Lines of a script.
use Rattle.std.specs.Prelude.{◌≡◌, [], None, Ok, Err, codes}
use Rattle.std.proofs.Common.{refl}
use Rattle.tree_edits.specs.declared.edit.Edit.TheVariants as edits
use Rattle.edit_script.specs.Commands.{command}
use Rattle.edit_script.specs.declared.command.Command.TheVariants as commands
use Rattle.edit_script.specs.declared.command.ScriptFault.TheVariants.{UnknownCommand, WrongFields, BadNumber, BadEscape}

empty_text : command (codes "text 2 ") None ≡ Ok (commands.Change (edits.SetText 2 []))
empty_text = refl

no_text : command (codes "text 2") None ≡ Err WrongFields
no_text = refl

leading_zero : command (codes "assess 07") None ≡ Ok (commands.Assess 7)
leading_zero = refl

signed : command (codes "remove +2") None ≡ Err BadNumber
signed = refl

other_word : command (codes "renames 1 a") None ≡ Err UnknownCommand
other_word = refl

empty_name : command (codes "rename 1 ") None ≡ Ok (commands.Change (edits.Rename 1 []))
empty_name = refl

empty_value : command (codes "set 1 a ") None ≡ Ok (commands.Change (edits.SetAttr 1 (codes "a") []))
empty_value = refl

two_names : command (codes "unset 1 a b") None ≡ Err WrongFields
two_names = refl

errors_alone : command (codes "errors") None ≡ Ok commands.Errors
errors_alone = refl

report_with_a_field : command (codes "report ") None ≡ Err WrongFields
report_with_a_field = refl

undo_alone : command (codes "undo") None ≡ Ok commands.Undo
undo_alone = refl

redo_with_a_field : command (codes "redo 1") None ≡ Err WrongFields
redo_with_a_field = refl

next_of_a_place : command (codes "next 1 0") None ≡ Ok (commands.Next 1 0)
next_of_a_place = refl

next_without_a_place : command (codes "next 1") None ≡ Err WrongFields
next_without_a_place = refl

turn_of_an_author : command (codes "as 2 7 remove 3") None ≡ Ok (commands.Turn 2 7 (edits.Remove 3))
turn_of_an_author = refl

turn_without_an_edit : command (codes "as 0 0") None ≡ Err WrongFields
turn_without_an_edit = refl

turn_of_an_empty_word : command (codes "as 0 0 ") None ≡ Err UnknownCommand
turn_of_an_empty_word = refl

turn_of_a_question : command (codes "as 0 0 total") None ≡ Err UnknownCommand
turn_of_a_question = refl

turn_with_few_fields : command (codes "as x 0 text 2") None ≡ Err WrongFields
turn_with_few_fields = refl

turn_with_a_bad_number : command (codes "as 0 18446744073709551616 text 2 \\q") None ≡ Err BadNumber
turn_with_a_bad_number = refl

turn_with_a_bad_escape : command (codes "as 0 18446744073709551615 text 2 \\q") None ≡ Err BadEscape
turn_with_a_bad_escape = refl
