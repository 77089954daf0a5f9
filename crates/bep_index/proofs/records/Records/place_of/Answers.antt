use Rattle.std.proofs.Common.{◌≡◌, ◌∙◌, ℕ, true, List, Option, Some, None, IfSome, IfNone, is_some, slice_get, nat_eq, refl, ap, sym, subst, true≢false}
use Rattle.std.specs.Cmp.Lexicographic.{pointwise}
use Rattle.std.specs.FinMap.{get, empty}
use Rattle.std.specs.Map.{lookup, values_of}
use Rattle.bep_record.specs.declared.entry.Entry.{Entry}
use Rattle.bep_index.specs.Batch.{HasNo, NamesDiffer, with_all}
use Rattle.bep_index.specs.Order.{IsAt}
use Rattle.bep_index.proofs.MadeFacts.{records_are_found}
use Rattle.bep_index.proofs.PlaceFacts.{looked_up, nothing, HasNo-none}
use Rattle.bep_index.proofs.records.Records.place_of.Goals as goal

-- what is looked up under the name
under_name : (c : goal.After-get_index_of) → lookup (pointwise nat_eq c.args.name.now) c.self.inside.entries.entries ≡ get (with_all empty c.args.self.now) c.args.name.now
under_name c = looked_up c.self.inside.entries.entries c.args.self.now c.args.name.now c.self.invariant c.self.view_is

names : (c : goal.After-get_index_of) → NamesDiffer c.args.self.now
names c = subst NamesDiffer c.self.view_is c.self.invariant.1.names

module _ (es : List Entry) (differ : NamesDiffer es) (name : List ℕ) where
  none : (o : Option ℕ) → is_some o ≡ is_some (get (with_all empty es) name) → IfNone o (HasNo name es)
  none None e = HasNo-none name es differ (nothing (get (with_all empty es) name) (sym e))
  none (Some place) e = tt

  at : (place : ℕ) (found : Option Entry) → get (with_all empty es) name ≡ found → true ≡ is_some found → slice_get es place ≡ found → IsAt es place name
  at place None got e is = absurd (true≢false e)
  at place (Some x) got e is = record { entry = x; there = is; named = ((records_are_found es name x differ).0 got).1 }

  there : (o : Option ℕ) → is_some o ≡ is_some (get (with_all empty es) name) → IfSome o (λ place. slice_get es place ≡ get (with_all empty es) name) → IfSome o (λ place. IsAt es place name)
  there None e is = tt
  there (Some place) e is = at place (get (with_all empty es) name) refl e is

pub returns-clause-none : goal.returns-clause-none
returns-clause-none c = none c.args.self.now (names c) c.args.name.now c.get_index_of.result (c.get_index_of.ensures.found ∙ ap is_some (under_name c))

pub returns-clause-there : goal.returns-clause-there
returns-clause-there c =
    there c.args.self.now (names c) c.args.name.now c.get_index_of.result (c.get_index_of.ensures.found ∙ ap is_some (under_name c))
    (subst (λ es. IfSome c.get_index_of.result (λ place. slice_get es place ≡ get (with_all empty c.args.self.now) c.args.name.now)) c.self.view_is
    (subst (λ found. IfSome c.get_index_of.result (λ place. slice_get (values_of c.self.inside.entries.entries) place ≡ found)) (under_name c) c.get_index_of.ensures.value))
