use Rattle.std.proofs.Common.{sym, ap, ◌++◌}
use Rattle.byte_streams.proofs.Sent.{begin, more, stopped, outcome}
use Rattle.po_write.proofs.Pieces.{entry_cut, after_translator, after_extracted, after_references, after_flags, after_previous}
use Rattle.std.specs.Prelude.{codes, flat_map}
use Rattle.po_text.specs.Entries.{previous_strings, entry_strings}
use Rattle.po_write.specs.Text.{comment, flags_line, string_lines}
use Rattle.po_write.proofs.writing.send_entry.Goals as goal

pub returns-in_err-write_comments : goal.returns-in_err-write_comments
returns-in_err-write_comments g c = stopped _ (after_translator c.args.entry.now) c.from_residual.ensures.0 (begin _ _ (entry_cut c.args.entry.now)) (ap (λ xs. flat_map (comment (codes "#")) xs ++ after_translator c.args.entry.now) (sym c.as_slice.ensures)) c.in_err-write_comments.ensures

pub returns-in_err-write_comments-2 : goal.returns-in_err-write_comments-2
returns-in_err-write_comments-2 g c = stopped _ (after_extracted c.args.entry.now) c.from_residual-in_err-write_comments-2.ensures.0 (more (begin _ _ (entry_cut c.args.entry.now)) (ap (λ xs. flat_map (comment (codes "#")) xs ++ after_translator c.args.entry.now) (sym c.as_slice.ensures)) c.in_ok-write_comments.ensures) (ap (λ xs. flat_map (comment (codes "#.")) xs ++ after_extracted c.args.entry.now) (sym c.as_slice-2.ensures)) c.in_err-write_comments-2.ensures

pub returns-in_err-write_comments-3 : goal.returns-in_err-write_comments-3
returns-in_err-write_comments-3 g c = stopped _ (after_references c.args.entry.now) c.from_residual-in_err-write_comments-3.ensures.0 (more (more (begin _ _ (entry_cut c.args.entry.now)) (ap (λ xs. flat_map (comment (codes "#")) xs ++ after_translator c.args.entry.now) (sym c.as_slice.ensures)) c.in_ok-write_comments.ensures) (ap (λ xs. flat_map (comment (codes "#.")) xs ++ after_extracted c.args.entry.now) (sym c.as_slice-2.ensures)) c.in_ok-write_comments-2.ensures) (ap (λ xs. flat_map (comment (codes "#:")) xs ++ after_references c.args.entry.now) (sym c.as_slice-3.ensures)) c.in_err-write_comments-3.ensures

pub returns-in_err-write_flags : goal.returns-in_err-write_flags
returns-in_err-write_flags g c = stopped _ (after_flags c.args.entry.now) c.from_residual-in_err-write_flags.ensures.0 (more (more (more (begin _ _ (entry_cut c.args.entry.now)) (ap (λ xs. flat_map (comment (codes "#")) xs ++ after_translator c.args.entry.now) (sym c.as_slice.ensures)) c.in_ok-write_comments.ensures) (ap (λ xs. flat_map (comment (codes "#.")) xs ++ after_extracted c.args.entry.now) (sym c.as_slice-2.ensures)) c.in_ok-write_comments-2.ensures) (ap (λ xs. flat_map (comment (codes "#:")) xs ++ after_references c.args.entry.now) (sym c.as_slice-3.ensures)) c.in_ok-write_comments-3.ensures) (ap (λ xs. flags_line xs ++ after_flags c.args.entry.now) (sym c.as_slice-4.ensures)) c.in_err-write_flags.ensures

pub returns-in_err-write_previous : goal.returns-in_err-write_previous
returns-in_err-write_previous g c = stopped _ (after_previous c.args.entry.now) c.from_residual-in_err-write_previous.ensures.0 (more (more (more (more (begin _ _ (entry_cut c.args.entry.now)) (ap (λ xs. flat_map (comment (codes "#")) xs ++ after_translator c.args.entry.now) (sym c.as_slice.ensures)) c.in_ok-write_comments.ensures) (ap (λ xs. flat_map (comment (codes "#.")) xs ++ after_extracted c.args.entry.now) (sym c.as_slice-2.ensures)) c.in_ok-write_comments-2.ensures) (ap (λ xs. flat_map (comment (codes "#:")) xs ++ after_references c.args.entry.now) (sym c.as_slice-3.ensures)) c.in_ok-write_comments-3.ensures) (ap (λ xs. flags_line xs ++ after_flags c.args.entry.now) (sym c.as_slice-4.ensures)) c.in_ok-write_flags.ensures) (ap (λ mark. flat_map (string_lines mark) (previous_strings c.args.entry.now.previous) ++ after_previous c.args.entry.now) (sym c.previous_mark.ensures)) c.in_err-write_previous.ensures

pub returns : goal.returns
returns g c = outcome _ _ _ (more (more (more (more (more (begin _ _ (entry_cut c.args.entry.now)) (ap (λ xs. flat_map (comment (codes "#")) xs ++ after_translator c.args.entry.now) (sym c.as_slice.ensures)) c.in_ok-write_comments.ensures) (ap (λ xs. flat_map (comment (codes "#.")) xs ++ after_extracted c.args.entry.now) (sym c.as_slice-2.ensures)) c.in_ok-write_comments-2.ensures) (ap (λ xs. flat_map (comment (codes "#:")) xs ++ after_references c.args.entry.now) (sym c.as_slice-3.ensures)) c.in_ok-write_comments-3.ensures) (ap (λ xs. flags_line xs ++ after_flags c.args.entry.now) (sym c.as_slice-4.ensures)) c.in_ok-write_flags.ensures) (ap (λ mark. flat_map (string_lines mark) (previous_strings c.args.entry.now.previous) ++ after_previous c.args.entry.now) (sym c.previous_mark.ensures)) c.in_ok-write_previous.ensures) (ap (λ mark. flat_map (string_lines mark) (entry_strings c.args.entry.now)) (sym c.message_mark.ensures)) c.write_messages.ensures
