pub mod Fit
pub mod Fits
pub mod Generator
pub mod Grammar
pub mod Words
pub use Rattle.model_script.specs.Words.{allowed_page_size, are_among, are_different, drive_names, given_crash, given_drive, given_followers, given_format, given_gen, given_number, given_run, given_workers, is_among, is_given, is_named, named_command, number_or, number_within, page_size_or, plain_command, where_allowed, Said, is_flag, joined_word, name_word, nothing_said, said_with, spelling, with_option, with_value, word_number, word_with}
unfoldable pub use Rattle.model_script.specs.Words.{asked_of, name_of, said_from, word_of}
pub use Rattle.model_script.specs.Fit.{archive_misfit, archive_need, first_misfit_of, group_misfit, item_misfit, lsn_misfit, misfit_if, page_misfit, round_end, script_end, total_misfit, user_misfit, write_misfit, group_of, record_of}
unfoldable pub use Rattle.model_script.specs.Fit.{first_misfit, line_misfit}
pub use Rattle.model_script.specs.Fits.{ArchiveFits, LineFits, ScriptFits, IsInRange, IsScriptLine}
pub use Rattle.model_script.specs.Generator.{draw, drawn_bytes, drawn_count, drawn_item, drawn_items, drawn_kind, drawn_length, drawn_line, drawn_lines, drawn_offset, drawn_page, first_state, item_draws, next_state, state_after, state_after_items, state_after_line}
unfoldable pub use Rattle.model_script.specs.Generator.{generated_lines, generated_text}
pub use Rattle.model_script.specs.Grammar.{digits_value, is_number, is_skipped, items_of, line_from, line_of_parts, mode_of, number_item, operations_of, script_from, text_item, width_of, with_line, words_of, item_words, items_text, mode_name, number_name, spaced}
unfoldable pub use Rattle.model_script.specs.Grammar.{hex_bytes, item_of, number_below, script_line_of, script_of, item_text, script_line_text, script_text}
