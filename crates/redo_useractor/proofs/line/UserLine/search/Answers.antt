use Rattle.std.proofs.Common.{ap, arith, get_or, ◌∙◌, ◌≡◌}
use Rattle.model_base.specs.{user_length}
use Rattle.model_core.specs.{Line}
use Rattle.redo_useractor.proofs.LinePlaces.{line_place}
use Rattle.redo_useractor.specs.declared.line.UserLine.TheInside.{Inside}
use Rattle.redo_useractor.proofs.line.UserLine.search.Goals as goal

pub returns-then-word-lt-WORDS_END : goal.returns-then-word-lt-WORDS_END
returns-then-word-lt-WORDS_END c =
    let users : c.user_bytes-user_bytes.result ≡ user_length c.self.inside.shape = c.user_bytes-user_bytes.ensures ∙ ap (λ (line : Inside). user_length line.shape) c.self-inside.view_is in
    line_place c.self.inside.shape c.self.inside.group c.as_slice-recs.result.now c.self.inside.pages.items c.args.self.now.changes c.args.page c.index-number.result.now
    (ap (λ (line : Line). line.changes) c.self.view_is) (c.as_slice-recs.ensures.value ∙ ap (λ (line : Inside). line.group) c.self-inside.view_is) c.requires.page
    (c.index-number.ensures ∙ ap (λ (line : Inside). get_or line.pages.items c.args.page c.index-number.result.now) c.self-inside.view_is) (c.self.invariant.0, c.self.invariant.1)
    c.args.word c.next_word-word.result c.count_in-count.result c.requires.word (rw users at c.next_word-word.ensures) (λ lt. rw users at c.count_in-count.ensures.count)

pub returns-else-word-lt-WORDS_END : goal.returns-else-word-lt-WORDS_END
returns-else-word-lt-WORDS_END c =
    let users : c.user_bytes-user_bytes.result ≡ user_length c.self.inside.shape = c.user_bytes-user_bytes.ensures ∙ ap (λ (line : Inside). user_length line.shape) c.self-inside.view_is in
    line_place c.self.inside.shape c.self.inside.group c.as_slice-recs.result.now c.self.inside.pages.items c.args.self.now.changes c.args.page c.index-number.result.now
    (ap (λ (line : Line). line.changes) c.self.view_is) (c.as_slice-recs.ensures.value ∙ ap (λ (line : Inside). line.group) c.self-inside.view_is) c.requires.page
    (c.index-number.ensures ∙ ap (λ (line : Inside). get_or line.pages.items c.args.page c.index-number.result.now) c.self-inside.view_is) (c.self.invariant.0, c.self.invariant.1)
    c.args.word c.next_word-word.result 0 c.requires.word (rw users at c.next_word-word.ensures) (λ lt. absurd (omega arith))
