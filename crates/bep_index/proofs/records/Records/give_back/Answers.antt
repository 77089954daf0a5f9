use Rattle.std.proofs.Common.{◌≡◌, ◌∙◌, ◌+◌, ◌++◌, ◌∷◌, [], List, ℕ, Option, Some, None, length, is_some, if◌then◌else◌, ap, sym, subst, true, true≢false, arith}
use Rattle.std.specs.Option.{option_to_list}
use Rattle.bep_record.specs.declared.entry.Entry.{Entry}
use Rattle.bep_index.specs.Order.{AreInOrder, named, without, back_in}
use Rattle.bep_index.proofs.MoveFacts.{same_front, length-last, without_last}
use Rattle.bep_index.proofs.PlaceFacts.{kept_named, values-same, length-named, named-push}
use Rattle.bep_index.proofs.PutFacts.{AreInOrder-back}
use Rattle.bep_index.proofs.records.Records.give_back.Goals as goal

-- what is left once the last was taken
left : (es rest : List Entry) (e : Entry) (name : List ℕ) (entries : List (List ℕ × Entry)) (taken : Option (List ℕ × Entry)) → AreInOrder es → es ≡ rest ++ e ∷ [] → e.name ≡ name
    → named es ≡ entries ++ option_to_list taken → length entries + (if is_some taken then 1 else 0) ≡ length (named es) → is_some taken ≡ true → entries ≡ named (without name es)
left es rest e name entries None order is same split many some = absurd (true≢false (sym some))
left es rest e name entries (Some p) order is same split many some =
    let one = length-last es rest e is in
    let all = length-named es in
    let front = length-named rest in
    same_front entries (named rest) p (e.name, e) (sym split ∙ ap named is ∙ named-push rest e) (omega arith)
    ∙ ap named (sym (without_last rest e name (subst AreInOrder is order).names same) ∙ ap (without name) (sym is))

entries : (c : goal.Joined-pop) → c.pop.new.self.entries ≡ named (without c.args.name.now c.args.self.now)
entries c =
    let held : c.self.inside.entries.entries ≡ named c.args.self.now = c.self.invariant.0 ∙ ap named c.self.view_is in
    let one = length-last c.args.self.now c.requires.last.0 c.requires.last.1 c.requires.last.2 in
    let all = length-named c.args.self.now in
    let many = ap length held in
    left c.args.self.now c.requires.last.0 c.requires.last.1 c.args.name.now c.pop.new.self.entries c.pop.result
    (subst AreInOrder c.self.view_is c.self.invariant.1) c.requires.last.2 c.requires.last.3
    (sym held ∙ c.pop.ensures.entries) (c.pop.ensures.len ∙ many) (c.pop.ensures.found.1 (omega arith))

pub invariant_of-self : goal.invariant_of-self
invariant_of-self c =
    kept_named c.pop.new.self.entries (without c.args.name.now c.args.self.now) (entries c)
    (AreInOrder-back c.args.self.now c.args.name.now None (subst AreInOrder c.self.view_is c.self.invariant.1) tt)

pub returns-in_default : goal.returns-in_default
returns-in_default c =
    values-same c.pop.new.self.entries (without c.args.name.now c.args.self.now) (entries c) ∙ ap (back_in c.args.self.now c.args.name.now) (sym c.in_default.is)
