use Rattle.std.proofs.Common.{rules, arith, ◌≡◌, ◌∙◌, ap, ◌++◌, length, string_bytes}
use Rattle.std.specs.String.{string_len}
use Rattle.std.proofs.lemmas.Grind.{common_steps}
use Rattle.csp_model.proofs.PathPush.{split_behind, encoded_ascii}
use Rattle.csp_model.proofs.path.push_piece.Goals as goal

pub truncate-requires : goal.truncate-requires
truncate-requires c =
    let size : string_len c.args.text.now ≡ length (string_bytes c.args.text.now) = search rules in
    let kept : string_bytes c.push-ended.new.self ≡ string_bytes c.append_to.new.out = grind (arith, common_steps) in
    λ within. split_behind _ (string_bytes c.args.text.now) _ _ (c.len-before.ensures ∙ size) (encoded_ascii c.args.piece.now)
    (kept ∙ c.in_ok-append_to.ensures.ok ∙ ap (λ e. string_bytes c.args.text.now ++ e) c.percent_encode.ensures.text)
