use Rattle.std.proofs.Common.{◌≡◌, ◌∙◌, true, Ok, [], ◌∷◌, ◌++◌, ap, sym, rules, arith}
use Rattle.bep_json.specs.Lists.{is_version}
use Rattle.bep_json.specs.Taking.{misread_of, with_told}
use Rattle.bep_json.specs.inner.Said.{if_so}
use Rattle.bep_json.specs.inner.Records.{entry_of, record_of}
use Rattle.bep_json.proofs.ListFacts.{version_decides}
use Rattle.bep_json.proofs.record_slots.put_record_of.Goals as goal

pub returns : goal.returns
returns c =
    let is : is_version c.args.things.1.1.1.1.0 ≡ true = grind (arith, version_decides) in
    let told : Ok (entry_of c.args.things) ≡ record_of c.args.things = sym (ap (λ s. if_so s (entry_of c.args.things)) is) in
    let pushed : c.push.new.self.items ≡ c.args.records.now.items ++ entry_of c.args.things ∷ [] = c.in_ok-push.ensures.items ∙ ap (λ e. c.args.records.now.items ++ e ∷ []) (search rules) in
    (ap misread_of told, pushed ∙ ap (with_told c.args.records.now.items) told)
