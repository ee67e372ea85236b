use Rattle.std.proofs.Common.{◌≡◌, ◌-◌, ◌*◌, ℕ, inl, inr, List, length, take, drop, ap, subst, sym, ◌∙◌, ⊎_elim, length-drop, arith}
use Rattle.std.proofs.lemmas.Bool.{cases_lt}
use Rattle.model_log.specs.declared.layout.TheConstants.{BLOCK_DATA}
use Rattle.redo_block.specs.{AreFirsts}
use Rattle.redo_logdev.specs.Part.{full_count}
use Rattle.redo_logdev.proofs.Cuts.{firsts-count, firsts-drop, firsts-take}
use Rattle.redo_logdev.proofs.blocks.fill_blocks.Goals as goal

pub split_at-requires-2 : goal.split_at-requires-2
split_at-requires-2 c = (firsts-count c.args.stream.now c.args.firsts.now c.requires.each).0

pub fill_front-full-requires-clause-each : goal.fill_front-full-requires-clause-each
fill_front-full-requires-clause-each c =
    let stream = c.args.stream.now in
    let each : AreFirsts (take (BLOCK_DATA * full_count stream) stream) (take (full_count stream) c.args.firsts.now) =
    firsts-take (full_count stream) stream c.args.firsts.now (omega arith) c.requires.each in
    subst (λ (x : List ℕ). AreFirsts x c.split_at-2.result.0.now) (sym c.split_at.ensures.front)
    (subst (λ (x : List ℕ). AreFirsts (take (BLOCK_DATA * full_count stream) stream) x) (sym c.split_at-2.ensures.front) each)

pub fill_front-requires-clause-room : goal.fill_front-requires-clause-room
fill_front-requires-clause-room c =
    let counts = firsts-count c.args.stream.now c.args.firsts.now c.requires.each in
    let long : length c.split_at-2.result.1.now ≡ length c.args.firsts.now - full_count c.args.stream.now =
    ap length c.split_at-2.ensures.back ∙ length-drop (full_count c.args.stream.now) c.args.firsts.now in
    omega (arith, counts.1)

pub fill_front-requires-clause-each : goal.fill_front-requires-clause-each
fill_front-requires-clause-each c =
    let stream = c.args.stream.now in
    let each : AreFirsts (drop (BLOCK_DATA * full_count stream) stream) (drop (full_count stream) c.args.firsts.now) =
    firsts-drop (full_count stream) stream c.args.firsts.now (omega arith) c.requires.each in
    subst (λ (x : List ℕ). AreFirsts x c.split_at-2.result.1.now) (sym c.split_at.ensures.back)
    (subst (λ (x : List ℕ). AreFirsts (drop (BLOCK_DATA * full_count stream) stream) x) (sym c.split_at-2.ensures.back) each)

pub returns-clause-last_len : goal.returns-clause-last_len
returns-clause-last_len c =
    let counts = firsts-count c.args.stream.now c.args.firsts.now c.requires.each in
    let long : length c.split_at-2.result.1.now ≡ length c.args.firsts.now - full_count c.args.stream.now =
    ap length c.split_at-2.ensures.back ∙ length-drop (full_count c.args.stream.now) c.args.firsts.now in
    ⊎_elim (λ none. inl (omega (arith, c.fill_front.ensures.len))) (λ some. inr (omega (arith, c.fill_front.ensures.len, counts.1)))
    (cases_lt (length c.split_at-2.result.1.now) 1)
