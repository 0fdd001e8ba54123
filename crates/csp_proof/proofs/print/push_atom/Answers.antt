use Rattle.std.proofs.Common.{◌∙◌, sym, ap, ◌++◌, ◌∷◌, [], ℕ, List}
use Rattle.std.specs.Prelude.{codes, string_bytes}
use Rattle.std.specs.List.{join_with_byte}
use Rattle.std.proofs.lemmas.Result.{on_ok_weaker}
use Rattle.csp_model.specs.Grammar.{algorithm_text}
use Rattle.csp_facts.specs.declared.atom.Atom.{Atom}
use Rattle.csp_proof.specs.Spelling.{atom_text}
use Rattle.csp_proof.proofs.print.push_atom.Goals as goal

pub returns-in-HostUnder : goal.returns-in-HostUnder
returns-in-HostUnder c =
    let told = ap (λ (v : List ℕ). join_with_byte 32 (codes "host-under" ∷ v ∷ [])) c.as_str-in-HostUnder.ensures.text ∙ ap atom_text (sym c.in-HostUnder.is) in
    on_ok_weaker c.push_two-in-HostUnder.result (λ e. e ∙ ap (λ (t : List ℕ). string_bytes c.args.text.now ++ t) told) c.push_two-in-HostUnder.ensures

pub returns-in_ok-push_str-in-HostDomain : goal.returns-in_ok-push_str-in-HostDomain
returns-in_ok-push_str-in-HostDomain c =
    c.in_ok-push_str-in-HostDomain.ensures.bytes ∙ ap (λ (a : Atom). string_bytes c.args.text.now ++ atom_text a) (sym c.in-HostDomain.is)

pub returns-in-PathUnder : goal.returns-in-PathUnder
returns-in-PathUnder c =
    let told = ap (λ (v : List ℕ). join_with_byte 32 (codes "path-under" ∷ v ∷ [])) c.as_str-in-PathUnder.ensures ∙ ap atom_text (sym c.in-PathUnder.is) in
    on_ok_weaker c.push_two-in-PathUnder.result (λ e. e ∙ ap (λ (t : List ℕ). string_bytes c.args.text.now ++ t) told) c.push_two-in-PathUnder.ensures

pub returns-in-IntegrityHas : goal.returns-in-IntegrityHas
returns-in-IntegrityHas c =
    let told = ap (λ (v : List ℕ). join_with_byte 32 (codes "integrity-has" ∷ v ∷ c.as_str-in-IntegrityHas-2.result.now ∷ [])) c.as_str-in-IntegrityHas.ensures
    ∙ ap (λ (v : List ℕ). join_with_byte 32 (codes "integrity-has" ∷ algorithm_text c.in-IntegrityHas.hash.algorithm ∷ v ∷ [])) c.as_str-in-IntegrityHas-2.ensures.text
    ∙ ap atom_text (sym c.in-IntegrityHas.is) in
    on_ok_weaker c.push_three.result (λ e. e ∙ ap (λ (t : List ℕ). string_bytes c.args.text.now ++ t) told) c.push_three.ensures

pub returns-in_ok-push_str-in-IntegrityOutside : goal.returns-in_ok-push_str-in-IntegrityOutside
returns-in_ok-push_str-in-IntegrityOutside c =
    c.in_ok-push_str-in-IntegrityOutside.ensures.bytes ∙ ap (λ (a : Atom). string_bytes c.args.text.now ++ atom_text a) (sym c.in-IntegrityOutside.is)
