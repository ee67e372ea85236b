use Rattle.std.proofs.Common.{ap, false, subst, ◌∙◌, ◌≡◌}
use Rattle.model_core.proofs.Tails.{held_in, tail_in}
use Rattle.model_core.specs.{is_held, SharedWords, tail_of}
use Rattle.redo_drive.specs.StartWords.{AreNamed, with_log}
use Rattle.redo_drive.proofs.start_words.set_log.Goals as goal

pub returns-clause-named : goal.returns-clause-named
returns-clause-named c = λ m named.
    let one = c.set.ensures.named m named in
    let two = c.set-2.ensures.named _ one in
    let three = c.set-3.ensures.named _ two in
    let four = c.set-4.ensures.named _ three in
    let five = c.set-5.ensures.named _ four in
    let six = c.set-6.ensures.named _ five in
    let all = c.set_places.ensures.named _ (c.set-7.ensures.named _ six) in
    let written : tail_of c.tail_word.result ≡ c.args.start = ap tail_of c.tail_word.ensures ∙ tail_in c.args.start false in
    let written_free : is_held c.tail_word.result ≡ false = ap is_held c.tail_word.ensures ∙ held_in c.args.start false in
    let closed : tail_of c.tail_word-2.result ≡ c.args.start = ap tail_of c.tail_word-2.ensures ∙ tail_in c.args.start false in
    let closed_free : is_held c.tail_word-2.result ≡ false = ap is_held c.tail_word-2.ensures ∙ held_in c.args.start false in
    let are : ◌≡◌ {A = SharedWords} _ (with_log c.args.start m) = λ i. record (with_log c.args.start m) { sn = c.sn_of.ensures i; wtail = written i; wheld = written_free i; ctail = closed i; cheld = closed_free i } in
    subst (AreNamed c.set_places.new.words) are all
