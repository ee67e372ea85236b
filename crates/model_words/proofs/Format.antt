-- The command `format`.
use Rattle.std.proofs.Common.{◌≡◌, ◌∙◌, ◌-◌, ◌^◌, inl, inr, refl, sym, ap, ℕ, Bool, true, false, List, map, codes, Option, Some, None, option_map, true≢false}
use Rattle.std.specs.Prelude.{option_and_then, fold}
use Rattle.clap.specs.Walk.{Row, Rule, Text, first_of, with_default}
use Rattle.model_base.specs.declared.limits.TheConstants.{DEFAULT_LOG_BLOCKS, DEFAULT_PAGES, DEFAULT_SPACE, MAX_LOG_BLOCKS, MAX_PAGES, MIN_LOG_BLOCKS}
use Rattle.model_script.specs.{are_different, given_format, is_flag, is_given, word_number}
use Rattle.model_script.specs.declared.asked.Asked.{Asked}
use Rattle.model_script.specs.declared.asked.Command.TheVariants as asked
use Rattle.model_script.specs.declared.words.Name.{Name}
use Rattle.model_script.specs.declared.words.Name.TheVariants as name
use Rattle.model_words.specs.Found.{is_true, text_number_or, text_page_size}
use Rattle.model_words.proofs.Asked.{or_is, page_size_is, read}
use Rattle.model_words.proofs.Asked.{Command as Reads}
use Rattle.model_words.proofs.Commands.{as_asked, given_is, good_options, or_bad, page_size_bad, text_is, twice_options, unfit_options}
use Rattle.model_words.proofs.Different.{different_is}
use Rattle.model_words.proofs.Said.{none_then}
use Rattle.model_words.proofs.Defaults.{Bad, flag_kept, number_kept}
use Rattle.model_words.proofs.Rules.{format_names, id, plain, rules}
use Rattle.model_words.proofs.Said.{are_members}
use Rattle.model_words.proofs.Spelled.{is_member}
use Rattle.model_words.proofs.Uses.{use_row}

abbrev format_with : Bool → Option ℕ → Option ℕ → Option ℕ → Option ℕ → Option Asked
format_with files page_size pages space log_blocks =
    as_asked files (option_and_then (λ page_size. option_and_then (λ pages. option_and_then (λ space.
    option_map (λ log_blocks. asked.Format page_size pages space log_blocks) log_blocks) space) pages) page_size)

format_bad : (rows0 : List Row) → Bad format_names plain rows0 → read (codes "format") format_names false plain rows0 ≡ None
format_bad rows0 (inr b) = absurd (true≢false (sym b.2))
format_bad rows0 (inl b) = go b.0 b.1 b.2 b.3 b.4 b.5
  where
    c : List Rule
    c = rules format_names false

    at : Name → Option Text
    at n = first_of (id n) (fold with_default rows0 (rules format_names false))

    fs : Bool
    fs = is_true (first_of (codes "files") (fold with_default rows0 (rules format_names false)))

    size : Option ℕ
    size = text_page_size (first_of (codes "page-size") (fold with_default rows0 (rules format_names false)))

    pages : Option ℕ
    pages = text_number_or 1 MAX_PAGES DEFAULT_PAGES (first_of (codes "pages") (fold with_default rows0 (rules format_names false)))

    space : Option ℕ
    space = text_number_or 0 (2 ^ 32 - 1) DEFAULT_SPACE (first_of (codes "space") (fold with_default rows0 (rules format_names false)))

    blocks : Option ℕ
    blocks = text_number_or MIN_LOG_BLOCKS MAX_LOG_BLOCKS DEFAULT_LOG_BLOCKS (first_of (codes "log-blocks") (fold with_default rows0 (rules format_names false)))

    go : (n : Name) (t : Text) → is_member format_names n ≡ true → is_flag n ≡ false → first_of (id n) rows0 ≡ Some t → word_number t ≡ None
        → read (codes "format") format_names false plain rows0 ≡ None
    go name.PageSize t m f e none =
        ap (λ o. format_with fs o pages space blocks)
        (page_size_bad _ t (number_kept (codes "page-size") (rules format_names false) rows0 refl ∙ e) none)
    go name.Pages t m f e none =
        ap (λ o. format_with fs size o space blocks)
        (or_bad 1 MAX_PAGES DEFAULT_PAGES _ t (number_kept (codes "pages") (rules format_names false) rows0 refl ∙ e) none)
        ∙ ap (as_asked fs) (none_then size)
    go name.Space t m f e none =
        ap (λ o. format_with fs size pages o blocks)
        (or_bad 0 (2 ^ 32 - 1) DEFAULT_SPACE _ t (number_kept (codes "space") (rules format_names false) rows0 refl ∙ e) none)
        ∙ ap (λ o. as_asked fs (option_and_then (λ x. o) size)) (none_then pages) ∙ ap (as_asked fs) (none_then size)
    go name.LogBlocks t m f e none =
        ap (λ o. format_with fs size pages space o)
        (or_bad MIN_LOG_BLOCKS MAX_LOG_BLOCKS DEFAULT_LOG_BLOCKS _ t
        (number_kept (codes "log-blocks") (rules format_names false) rows0 refl ∙ e) none)
        ∙ ap (λ o. as_asked fs (option_and_then (λ y. option_and_then (λ x. o) pages) size)) (none_then space)
        ∙ ap (λ o. as_asked fs (option_and_then (λ x. o) size)) (none_then pages) ∙ ap (as_asked fs) (none_then size)
    go name.Files t m f e none = absurd (true≢false f)
    go _ t m f e none = absurd (true≢false (sym m))

pub format_is : Reads (codes "format") format_names false plain
format_is = record {
  good = λ us said ok e d m.
      let text = text_is format_names (rules format_names false) plain us said ok e in
      (λ i. format_with (given_is format_names (rules format_names false) plain us said ok e name.Files refl (flag_kept (codes "files") (rules format_names false) (map use_row us) refl) i)
      (page_size_is _ _ (text name.PageSize refl
      (number_kept (codes "page-size") (rules format_names false) (map use_row us) refl)) i)
      (or_is 1 MAX_PAGES DEFAULT_PAGES _ _ (text name.Pages refl (number_kept (codes "pages") (rules format_names false) (map use_row us) refl)) i)
      (or_is 0 (2 ^ 32 - 1) DEFAULT_SPACE _ _ (text name.Space refl (number_kept (codes "space") (rules format_names false) (map use_row us) refl)) i)
      (or_is MIN_LOG_BLOCKS MAX_LOG_BLOCKS DEFAULT_LOG_BLOCKS _ _ (text name.LogBlocks refl (number_kept (codes "log-blocks") (rules format_names false) (map use_row us) refl)) i))
      ∙ good_options (are_members format_names said.options) (are_different said.options) (is_given name.Files said.options) said.values (given_format said.options) m
      (different_is format_names plain us said ok e ∙ d);
  bad = format_bad;
  other = λ said e. unfit_options (are_members format_names said.options) (are_different said.options) (is_given name.Files said.options) said.values (given_format said.options) e;
  twice = λ said e. twice_options (are_members format_names said.options) (are_different said.options) (is_given name.Files said.options) said.values (given_format said.options) e;
}
