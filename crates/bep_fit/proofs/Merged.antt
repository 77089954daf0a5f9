-- Logs that agree have one merged list, and each log is what touches it there.
use Rattle.std.proofs.Common.{◌≡◌, ℕ, Bool, List, Contains}
use Rattle.std.specs.List.{filter, flat_map}
use Rattle.bep_facts.specs.Members.{Contains-flat_map, Contains-from_flat_map}
use Rattle.bep_fit.specs.Merge.{AreParts, DoAgree, IsLogged, IsMerged}
use Rattle.bep_fit.proofs.Rising.{kept-passes, kept-rises, one_rising, passes-kept, some_rising}

module _ {E L : Type 0} (ticket : E → ℕ) (events : L → List E) where
  pub merged_is_one : (logs : List L) (merged other : List E) → IsMerged ticket events logs merged → IsMerged ticket events logs other → merged ≡ other
  merged_is_one logs merged other one two =
      one_rising ticket merged other one.rises two.rises (λ z. (λ stands. (two.holds z).1 ((one.holds z).0 stands), λ stands. (one.holds z).1 ((two.holds z).0 stands)))

  module _ (touches : E → L → Bool) (logs : List L) (agree : DoAgree ticket events touches logs) where
    pub is_part : (merged : List E) → IsMerged ticket events logs merged → AreParts events touches logs merged
    is_part merged is log there =
        one_rising ticket (events log) (filter (λ one. touches one log) merged) (agree.rise log there) (kept-rises ticket (λ one. touches one log) merged is.rises)
        (λ z. (
          λ stands. passes-kept (λ one. touches one log) merged z ((is.holds z).1 (log, there, stands)) (agree.no_other z log there stands),
          λ stands. let kept = kept-passes (λ one. touches one log) merged z stands in agree.every z log ((is.holds z).0 kept.0) there kept.1,
        ))

    pub logs_merge : (merged : List E) × IsMerged ticket events logs merged × AreParts events touches logs merged
    logs_merge =
        let all = flat_map events logs in
        let logged : (z : E) → Contains all z → IsLogged events logs z = Contains-from_flat_map events logs in
        let found = some_rising ticket all (λ one other here there. agree.one_ticket one other (logged one here) (logged other there)) in
        let is : IsMerged ticket events logs found.0 = record {
          rises = found.1;
          holds = λ z. (λ stands. logged z ((found.2 z).0 stands), λ in_log. (found.2 z).1 (Contains-flat_map events logs in_log.0 z in_log.1 in_log.2));
        } in
        (found.0, is, is_part found.0 is)
