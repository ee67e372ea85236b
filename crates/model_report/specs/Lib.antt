pub mod Answered
pub mod FaultLine
pub mod Legal
pub mod Listing
pub mod Records
pub use Rattle.model_report.specs.Answered.{HasNoLost, IsAnswered}
pub use Rattle.model_report.specs.Legal.{state_by, FitsMarks, FitsMode, HasLeft, IsLeft, IsLegal, IsLegalEntry, IsOfLine, count_up_to, entries_of_user, entry_spans, group_of_line, lines_of_user, whole_of, wholes_of}
pub use Rattle.model_report.specs.FaultLine.{misfit_words, quantity_word, refusal_words, restore_words, status_of}
unfoldable pub use Rattle.model_report.specs.FaultLine.{fault_line}
pub use Rattle.model_report.specs.Listing.{line_text, hex_word, onto_trimmed, page_lines_from, trimmed, block_line, block_lines, cause_word, checkpoint_line, dump_text, end_line, fit_word, item_of_record, read_line, record_line, recover_text, restored_text, stop_line, stop_lines, store_line, whole_lines, follow_line, group_line, left_line, marks_line, open_line, recovered_line, state_word}
pub use Rattle.model_report.specs.Records.{NamesOperation}
unfoldable pub use Rattle.model_report.specs.Listing.{format_text, listing_text, summary_text, report_text, page_line, page_lines}
