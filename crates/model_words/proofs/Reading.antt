-- The commands `recover`, `dump` and `restore`.
use Rattle.std.proofs.Common.{◌≡◌, ◌∙◌, ◌-◌, ◌^◌, inl, inr, refl, sym, ap, ℕ, Bool, true, false, List, map, codes, Option, Some, None, option_map, true≢false}
use Rattle.std.specs.Prelude.{fold}
use Rattle.clap.specs.Walk.{Row, Text, first_of, with_default}
use Rattle.model_script.specs.{are_different, given_number, given_workers, is_flag, is_given, word_number}
use Rattle.model_script.specs.declared.asked.Asked.{Asked}
use Rattle.model_script.specs.declared.asked.Command.TheVariants as asked
use Rattle.model_script.specs.declared.words.Name.{Name}
use Rattle.model_script.specs.declared.words.Name.TheVariants as name
use Rattle.model_script.specs.declared.words.TheConstants.{MAX_WORKERS}
use Rattle.model_words.specs.Found.{is_true}
use Rattle.model_words.proofs.Asked.{or_is, read, whole_value}
use Rattle.model_words.proofs.Asked.{Command as Reads}
use Rattle.model_words.proofs.Commands.{as_asked, given_is, good_options, or_bad, text_is, twice_options, unfit_options, within_bad}
use Rattle.model_words.proofs.Different.{different_is}
use Rattle.model_words.proofs.Defaults.{Bad, flag_kept, number_kept}
use Rattle.model_words.proofs.Rules.{dump_names, id, plain, recover_names, restore_names, rules}
use Rattle.model_words.proofs.Said.{are_members}
use Rattle.model_words.proofs.Spelled.{is_member}
use Rattle.model_words.proofs.Uses.{use_row}

-- ---- recover

abbrev recover_with : Bool → Option ℕ → Option Asked
recover_with files workers = as_asked files (option_map asked.Recover workers)

recover_bad : (rows0 : List Row) → Bad recover_names plain rows0 → read (codes "recover") recover_names false plain rows0 ≡ None
recover_bad rows0 (inr b) = absurd (true≢false (sym b.2))
recover_bad rows0 (inl b) = go b.0 b.1 b.2 b.3 b.4 b.5
  where
    go : (n : Name) (t : Text) → is_member recover_names n ≡ true → is_flag n ≡ false → first_of (id n) rows0 ≡ Some t → word_number t ≡ None
        → read (codes "recover") recover_names false plain rows0 ≡ None
    go name.Workers t m f e none =
        ap (recover_with (is_true (first_of (codes "files") (fold with_default rows0 (rules recover_names false)))))
        (or_bad 1 MAX_WORKERS 1 _ t (number_kept (codes "workers") (rules recover_names false) rows0 refl ∙ e) none)
    go name.Files t m f e none = absurd (true≢false f)
    go _ t m f e none = absurd (true≢false (sym m))

pub recover_is : Reads (codes "recover") recover_names false plain
recover_is = record {
  good = λ us said ok e d m.
      let text = text_is recover_names (rules recover_names false) plain us said ok e in
      let given = given_is recover_names (rules recover_names false) plain us said ok e in
      (λ i. recover_with (given name.Files refl (flag_kept (codes "files") (rules recover_names false) (map use_row us) refl) i)
      (or_is 1 MAX_WORKERS 1 _ _ (text name.Workers refl (number_kept (codes "workers") (rules recover_names false) (map use_row us) refl)) i))
      ∙ good_options (are_members recover_names said.options) (are_different said.options) (is_given name.Files said.options) said.values (option_map asked.Recover (given_workers said.options)) m
      (different_is recover_names plain us said ok e ∙ d);
  bad = recover_bad;
  other = λ said e. unfit_options (are_members recover_names said.options) (are_different said.options) (is_given name.Files said.options) said.values (option_map asked.Recover (given_workers said.options)) e;
  twice = λ said e. twice_options (are_members recover_names said.options) (are_different said.options) (is_given name.Files said.options) said.values (option_map asked.Recover (given_workers said.options)) e;
}

-- ---- dump

dump_bad : (rows0 : List Row) (P : Type 0) → Bad dump_names plain rows0 → P
dump_bad rows0 P (inr b) = absurd (true≢false (sym b.2))
dump_bad rows0 P (inl b) = go b.0 b.2 b.3
  where
    go : (n : Name) → is_member dump_names n ≡ true → is_flag n ≡ false → P
    go name.Files m f = absurd (true≢false f)
    go name.Why m f = absurd (true≢false f)
    go _ m f = absurd (true≢false (sym m))

abbrev dump_with : Bool → Bool → Option Asked
dump_with files why = as_asked files (Some (asked.Dump why))

pub dump_is : Reads (codes "dump") dump_names false plain
dump_is = record {
  good = λ us said ok e d m.
      let given = given_is dump_names (rules dump_names false) plain us said ok e in
      (λ i. dump_with (given name.Files refl (flag_kept (codes "files") (rules dump_names false) (map use_row us) refl) i)
      (given name.Why refl (flag_kept (codes "why") (rules dump_names false) (map use_row us) refl) i))
      ∙ good_options (are_members dump_names said.options) (are_different said.options) (is_given name.Files said.options) said.values (Some (asked.Dump (is_given name.Why said.options))) m
      (different_is dump_names plain us said ok e ∙ d);
  bad = λ rows0 b. dump_bad rows0 _ b;
  other = λ said e. unfit_options (are_members dump_names said.options) (are_different said.options) (is_given name.Files said.options) said.values (Some (asked.Dump (is_given name.Why said.options))) e;
  twice = λ said e. twice_options (are_members dump_names said.options) (are_different said.options) (is_given name.Files said.options) said.values (Some (asked.Dump (is_given name.Why said.options))) e;
}

-- ---- restore

abbrev restore_with : Bool → Option ℕ → Option Asked
restore_with files to = as_asked files (option_map asked.Restore to)

restore_bad : (rows0 : List Row) → Bad restore_names plain rows0 → read (codes "restore") restore_names false plain rows0 ≡ None
restore_bad rows0 (inr b) = absurd (true≢false (sym b.2))
restore_bad rows0 (inl b) = go b.0 b.1 b.2 b.3 b.4 b.5
  where
    go : (n : Name) (t : Text) → is_member restore_names n ≡ true → is_flag n ≡ false → first_of (id n) rows0 ≡ Some t → word_number t ≡ None
        → read (codes "restore") restore_names false plain rows0 ≡ None
    go name.To t m f e none =
        ap (restore_with (is_true (first_of (codes "files") (fold with_default rows0 (rules restore_names false)))))
        (within_bad 0 (2 ^ 64 - 1) _ t (number_kept (codes "to") (rules restore_names false) rows0 refl ∙ e) none)
    go name.Files t m f e none = absurd (true≢false f)
    go _ t m f e none = absurd (true≢false (sym m))

pub restore_is : Reads (codes "restore") restore_names false plain
restore_is = record {
  good = λ us said ok e d m.
      let text = text_is restore_names (rules restore_names false) plain us said ok e in
      let given = given_is restore_names (rules restore_names false) plain us said ok e in
      (λ i. restore_with (given name.Files refl (flag_kept (codes "files") (rules restore_names false) (map use_row us) refl) i)
      (whole_value _ _ (text name.To refl (number_kept (codes "to") (rules restore_names false) (map use_row us) refl)) i))
      ∙ good_options (are_members restore_names said.options) (are_different said.options) (is_given name.Files said.options) said.values (option_map asked.Restore (given_number name.To said.options)) m
      (different_is restore_names plain us said ok e ∙ d);
  bad = restore_bad;
  other = λ said e. unfit_options (are_members restore_names said.options) (are_different said.options) (is_given name.Files said.options) said.values (option_map asked.Restore (given_number name.To said.options)) e;
  twice = λ said e. twice_options (are_members restore_names said.options) (are_different said.options) (is_given name.Files said.options) said.values (option_map asked.Restore (given_number name.To said.options)) e;
}
