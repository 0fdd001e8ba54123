use Rattle.std.proofs.Common.{get_or}
use Rattle.std.proofs.lemmas.List.Elements.{All-contains}
use Rattle.csp_facts.specs.Atoms.{IsValidAtom}
use Rattle.csp_branch.proofs.names.Names.new.Goals as goal

pub new-requires : goal.new-requires
new-requires c =
    let sorted = c.in_ok-sorted.sorted in
    record {
      valid = λ k d h. All-contains IsValidAtom c.args.atoms (get_or sorted k d) c.requires (c.in_ok-sorted.ensures.only k d h);
      rise = c.in_ok-sorted.ensures.rises;
    }
