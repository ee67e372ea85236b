-- What reading gives where a group's text stands in front.
use Rattle.std.proofs.Common.{◌≡◌, ℕ, ◌≤◌, List, [], ◌++◌, length, drop, sym, ap, ◌∙◌, refl, arith, append_assoc, length-append}
use Rattle.std.proofs.lemmas.List.{append-nil, take_at, take-append-drop, length-take-le}
use Rattle.model_base.specs.declared.got.Got.{Got}
use Rattle.model_base.specs.declared.got.Got.TheVariants.{Value, Short, Bad}
use Rattle.model_base.specs.declared.limits.TheConstants.{MAX_GROUP}
use Rattle.model_log.specs.Group.{IsGroup, group_length, group_text}
use Rattle.model_log.specs.GroupFront.{GivesGroup}
use Rattle.model_log.specs.declared.rec.Rec.{Rec}
use Rattle.model_log.proofs.Several.{OneGroup, back_nil, one_group}

pub group_in_front : OneGroup → (group : List Rec) (rest : List ℕ) (got : Got (List Rec)) → IsGroup group → group_length group ≤ MAX_GROUP → GivesGroup (group_text group ++ rest) got → got ≡ Value group (group_length group)
group_in_front one group rest (Value other len) is short h =
    let bytes : List ℕ = group_text group ++ rest in
    let parts : group_text other ++ drop len bytes ≡ group_text group ++ rest = ap (λ (t : List ℕ). t ++ drop len bytes) (sym h.2.spelled) ∙ take-append-drop len bytes in
    let same : other ≡ group = (one other group (drop len bytes) rest h.2.is_group is parts).0 in
    let long : len ≡ group_length group = sym (length-take-le len bytes h.0) ∙ ap length h.2.spelled ∙ ap group_length same in
    ap (λ (g : List Rec). Value g len) same ∙ ap (Value group) long
group_in_front one group rest Short is short h =
    let more : List ℕ = h.1.0 in
    let other : List Rec = h.1.1 in
    let parts : group_text group ++ (rest ++ more) ≡ group_text other ++ [] =
    sym (append_assoc (group_text group) rest more) ∙ h.1.3.spelled ∙ sym (append-nil (group_text other)) in
    absurd (h.1.2 (back_nil rest more (one group other (rest ++ more) [] is h.1.3.is_group parts).1))
group_in_front one group rest Bad is short h =
    let long : group_length group ≤ length (group_text group ++ rest) = omega (arith, length-append (group_text group) rest) in
    absurd (h.0 group (group_length group) (long, short, record { is_group = is; spelled = take_at (group_text group) rest (group_length group) refl }))

pub group-reads_back : (group : List Rec) (rest : List ℕ) (got : Got (List Rec)) → IsGroup group → group_length group ≤ MAX_GROUP → GivesGroup (group_text group ++ rest) got → got ≡ Value group (group_length group)
group-reads_back = group_in_front one_group
