use Rattle.std.proofs.Common.{◌≡◌, ◌∙◌, ◌&&◌, ◌∷◌, if◌then◌else◌, sym, ap, take, drop, length}
use Rattle.std.specs.List.{list_all}
use Rattle.csp_model.specs.Policies.{is_token_char, is_field_name, is_field_value, Header, Bad}
use Rattle.csp_policy.proofs.NamedHeader.{name_end, name_passes, header_found, nothing_behind, other_behind}
use Rattle.csp_policy.proofs.lines.header.Goals.{in_default-via-in-Some+else-first-eq58, in_default-via-in_default}
use Rattle.csp_policy.proofs.lines.header.Goals as goal

pub header_named-requires : goal.header_named-requires
header_named-requires c = ap (list_all is_token_char) (c.split_at.ensures.front ∙ ap (λ n. take n c.args.line.now) c.name_len.ensures.value) ∙ name_passes c.args.line.now

pub returns-in-Some : goal.returns-in-Some
returns-in-Some c =
    let line = c.args.line.now in
    let value = c.in-Some.value.now in
    let front = c.split_at.ensures.front ∙ ap (λ n. take n line) c.name_len.ensures.value in
    let back = c.split_at.ensures.back ∙ ap (λ n. drop n line) c.name_len.ensures.value in
    let behind : drop (name_end line) line ≡ 58 ∷ value = sym back ∙ c.in-Some.ensures.cases.0 ∙ ap (λ b. b ∷ value) c.if-first-eq58.true in
    c.header_named.ensures ∙ ap (λ name. if is_field_name name && is_field_value value then Header name value else Bad) front ∙ sym (header_found line value behind)

pub returns-in_default : goal.returns-in_default
returns-in_default c =
    let line = c.args.line.now in
    let back = c.split_at.ensures.back ∙ ap (λ n. drop n line) c.name_len.ensures.value in
    sym (elim c.in_default.branch [
      | in_default-via-in-Some+else-first-eq58 w ↦ other_behind line w.in-Some.first.now w.in-Some.value.now (sym back ∙ w.in-Some.ensures.cases.0) w.if-first-eq58.false
      | in_default-via-in_default w ↦ nothing_behind line (ap length (sym back) ∙ w.in_default.ensures.cases)
    ])
