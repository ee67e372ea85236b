use Rattle.std.proofs.Common.{add-one, ap, arith, length, subst, sym, ◌<◌, ◌∙◌}
use Rattle.std.proofs.lemmas.Option.{slice_get-get_or}
use Rattle.model_base.proofs.ShapeLimits.{whole_sectors}
use Rattle.model_core.specs.{word_count}
use Rattle.model_core.specs.declared.words.Layout.{Layout}
use Rattle.model_page.specs.{blank_page}
use Rattle.redo_drive.proofs.StartWordsPages.{opened_pages-bytes, user_at}
use Rattle.redo_drive.proofs.StartWordsStore.{set_all, set_first, set_more, set_none}
use Rattle.redo_drive.proofs.StartWordsZero.{zero_named, zero_words}
use Rattle.redo_drive.specs.StartWords.{AreNamed, with_log}
use Rattle.redo_drive.proofs.start_words.start_words.Goals as goal

pub loop-page-init : goal.loop-page-init
loop-page-init c =
    let words = c.in_ok-words.words in
    let its = c.in_ok-words.ensures in
    set_none c.args.shape.now c.args.start c.args.pages.now c.set_log.new.words (sym c.requires.its_pages.count)
    (c.set_log.ensures.layout ∙ its.layout)
    (subst (λ (l : Layout). AreNamed c.set_log.new.words (with_log c.args.start (zero_words l))) its.layout
    (c.set_log.ensures.named _ (zero_named words (its.count ∙ ap word_count (sym its.layout)) its.zero)))

pub set_frame-requires-clause-short : goal.set_frame-requires-clause-short
set_frame-requires-clause-short c =
    let there : c.loop-page.page < length c.args.pages.now = omega (arith, c.requires.its_pages.count) in
    let user = rw (slice_get-get_or c.args.pages.now c.loop-page.page (blank_page c.args.shape.now) there) at c.user_bytes.ensures in
    let long = user_at c.args.shape.now c.requires.limits c.args.pages.now c.requires.its_pages c.loop-page.page in
    omega (arith, ap length user, (whole_sectors c.args.shape.now c.requires.limits).most)

pub loop-page-preserved : goal.loop-page-preserved
loop-page-preserved c =
    let there : c.loop-page.page < length c.args.pages.now = omega (arith, c.requires.its_pages.count) in
    let user = rw (slice_get-get_or c.args.pages.now c.loop-page.page (blank_page c.args.shape.now) there) at c.user_bytes.ensures in
    rw add-one (set_more c.args.shape.now c.args.start c.args.pages.now c.loop-page.words c.set_frame.new.words c.loop-page.page c.user_bytes.result.now c.loop-page.invariant there user
    c.set_frame.ensures.bytes c.set_frame.ensures.layout c.set_frame.ensures.named)

pub returns-clause-bytes : goal.returns-clause-bytes
returns-clause-bytes c = opened_pages-bytes c.args.shape.now c.args.pages.now (λ p there. c.loop-page.invariant.bytes p (omega arith) there)

pub returns-clause-first : goal.returns-clause-first
returns-clause-first c = set_first c.args.shape.now c.args.start c.args.pages.now c.loop-page.words c.loop-page.page
    c.loop-page.invariant (omega arith)

pub returns-clause-starts : goal.returns-clause-starts
returns-clause-starts c = λ run on. set_all c.args.shape.now c.args.start c.args.pages.now run c.requires.limits c.requires.its_pages c.requires.place on c.loop-page.words c.loop-page.page c.loop-page.invariant (omega arith)

pub set_frame-requires-clause-there : goal.set_frame-requires-clause-there
set_frame-requires-clause-there c =
    let layout = c.loop-page.invariant.layout in
    let pages = ap (λ (l : Layout). l.pages) layout in omega arith

pub set_frame-requires-clause-its_size : goal.set_frame-requires-clause-its_size
set_frame-requires-clause-its_size c = ap (λ (l : Layout). l.page_size) c.loop-page.invariant.layout

pub returns-clause-layout : goal.returns-clause-layout
returns-clause-layout c = c.loop-page.invariant.layout
