use Rattle.std.proofs.Common.{◌≡◌, ◌++◌, None, Bool, true, false, subst}
use Rattle.csp_facts.specs.declared.atom.Literal.{Literal}
use Rattle.csp_cell.specs.Cells.{needed_beside, IsCell, IsOf, Takes}
use Rattle.csp_facts.specs.Follows.{decided}
use Rattle.csp_cell.specs.Inside.{Adds}
use Rattle.csp_cell.proofs.Making.{made_cell, made_placing, made_others}
use Rattle.csp_cell.proofs.Parts.{both_open, takes_added}
use Rattle.csp_cell.proofs.Splitting.{decides_with, meets_positive, meets_negative}
use Rattle.csp_cell.proofs.cell.Cell.narrow.Goals as goal

pub keep_needed-requires : goal.keep_needed-requires
keep_needed-requires c =
    rw c.in_ok-copy.ensures (both_open c.self.inside.placing.items c.self.inside.others.items c.args.atom.now (rw (← c.self.view_is) at c.requires.undecided)).0

pub keep_needed-requires-2 : goal.keep_needed-requires-2
keep_needed-requires-2 c =
    rw c.in_ok-copy.ensures (both_open c.self.inside.placing.items c.self.inside.others.items c.args.atom.now (rw (← c.self.view_is) at c.requires.undecided)).1

pub invariant_of-self : goal.invariant_of-self
invariant_of-self c =
    let l : Literal = record { atom = c.args.atom.now; positive = c.args.positive } in
    let p = c.self.inside.placing.items in
    let o = c.self.inside.others.items in
    let kept_p = c.keep_needed.new.literals.items in
    let kept_o = c.keep_needed-2.new.literals.items in
    let new_p = c.add.new.placing.items in
    let new_o = c.add.new.others.items in
    let first : kept_p ≡ needed_beside l p = rw c.in_ok-copy.ensures at c.keep_needed.ensures in
    let second : kept_o ≡ needed_beside l o = rw c.in_ok-copy.ensures at c.keep_needed-2.ensures in
    let adds : Adds kept_p kept_o l new_p new_o = rw c.in_ok-copy.ensures at c.in_ok-add.ensures in
    let undecided : decided (p ++ o) l.atom ≡ None = rw (← c.self.view_is) at c.requires.undecided in
    let valid : IsOf c.args.self.shape l = (c.requires.valid, c.requires.belongs) in
    let here : IsOf c.self.inside.shape l = rw (← c.self.view_is) at valid in
    record {
      cell = made_cell c.self.inside.shape p o kept_p kept_o new_p new_o l first second adds undecided c.self.invariant.cell here;
      placing = made_placing c.self.inside.shape p o kept_p kept_o new_p new_o l first second adds undecided c.self.invariant.cell c.self.invariant.placing;
      others = made_others c.self.inside.shape p o kept_p kept_o new_p new_o l first second adds undecided c.self.invariant.cell c.self.invariant.others;
    }

pub returns-clause-takes : goal.returns-clause-takes
returns-clause-takes c =
    let l : Literal = record { atom = c.args.atom.now; positive = c.args.positive } in
    let p = c.self.inside.placing.items in
    let o = c.self.inside.others.items in
    let kept_p = c.keep_needed.new.literals.items in
    let kept_o = c.keep_needed-2.new.literals.items in
    let new_p = c.add.new.placing.items in
    let new_o = c.add.new.others.items in
    let first : kept_p ≡ needed_beside l p = rw c.in_ok-copy.ensures at c.keep_needed.ensures in
    let second : kept_o ≡ needed_beside l o = rw c.in_ok-copy.ensures at c.keep_needed-2.ensures in
    let adds : Adds kept_p kept_o l new_p new_o = rw c.in_ok-copy.ensures at c.in_ok-add.ensures in
    rw (← c.self.view_is) (takes_added l p o new_p new_o (rw (← first, ← second) adds))

pub returns-clause-decides : goal.returns-clause-decides
returns-clause-decides c asked =
    let l : Literal = record { atom = c.args.atom.now; positive = c.args.positive } in
    let undecided : decided c.args.self.literals l.atom ≡ None = c.requires.undecided in
    let cell : IsCell c.args.self = rw (← c.self.view_is) c.self.invariant.cell in
    decides_with c.args.self (c.add.new.placing.items ++ c.add.new.others.items) l asked (returns-clause-takes c) undecided cell

pub returns-clause-meets_positive : goal.returns-clause-meets_positive
returns-clause-meets_positive c hashes asked positive =
    let old = c.args.self.literals in
    let new = c.add.new.placing.items ++ c.add.new.others.items in
    let takes : Takes old (record { atom = c.args.atom.now; positive = true }) new =
    subst (λ (sign : Bool). Takes old (record { atom = c.args.atom.now; positive = sign }) new) positive (returns-clause-takes c) in
    meets_positive hashes asked old new c.args.atom.now takes

pub returns-clause-meets_negative : goal.returns-clause-meets_negative
returns-clause-meets_negative c hashes asked negative =
    let old = c.args.self.literals in
    let new = c.add.new.placing.items ++ c.add.new.others.items in
    let takes : Takes old (record { atom = c.args.atom.now; positive = false }) new =
    subst (λ (sign : Bool). Takes old (record { atom = c.args.atom.now; positive = sign }) new) negative (returns-clause-takes c) in
    meets_negative hashes asked old new c.args.atom.now takes
