use Rattle.std.proofs.Common.{◌≡◌, ◌≤◌, ◌==◌, ℕ, true, List, All, sym, subst, arith}
use Rattle.std.specs.List.{list_any}
use Rattle.std.specs.Ordering.{nat_cmp}
use Rattle.std.specs.Map.{keys_of}
use Rattle.std.specs.BTreeMap.{is_at, insert_entry}
use Rattle.std.specs.BTreeSet.{insert_key}
use Rattle.std.proofs.lemmas.Bool.Decides.{nat_tests}
use Rattle.std.proofs.lemmas.List.Elements.{All-weaker}
use Rattle.std.proofs.lemmas.Map.Views.{All-insert_key, All-keys-insert_entry, All-values-insert_entry}
use Rattle.bep_record.specs.declared.limits.TheConstants.{MAX_DEVICES}
use Rattle.bep_config.specs.Config.{IsNewShare, by_share, by_name, Joins}
use Rattle.bep_config.proofs.Kept.{kept_in, key_kept, key_there, few_then}
use Rattle.bep_config.proofs.config.Config.put_share.Goals as goal

same : (n : ℕ) → (n == n) ≡ true
same n = grind (arith, nat_tests)

pub invariant_of-self-2 : goal.invariant_of-self-2
invariant_of-self-2 g c =
    let old = c.self.inside in
    let new = c.add_share.new in
    let key = c.args.key in
    let sharing = c.args.sharing in
    let is = subst (λ config. IsNewShare config key.0 key.1 sharing.index_id) (sym c.self.view_is) c.requires in
    let kept = kept_in nat_cmp old.devices new.devices key.1 c.in_ok-add_share.ensures.kept in
    let of_folders : All (λ (k : List ℕ × ℕ). list_any (is_at (by_name k.0)) old.folders.keys ≡ true) (keys_of (insert_entry by_share old.shares.entries key sharing)) =
    All-keys-insert_entry by_share key sharing (λ k. list_any (is_at (by_name k.0)) old.folders.keys ≡ true) old.shares.entries c.self.invariant.of_folders is.there in
    let of_devices : All (λ (k : List ℕ × ℕ). list_any (is_at (nat_cmp k.1)) new.devices.keys ≡ true) (keys_of (insert_entry by_share old.shares.entries key sharing)) =
    All-keys-insert_entry by_share key sharing (λ k. list_any (is_at (nat_cmp k.1)) new.devices.keys ≡ true) old.shares.entries
    (All-weaker (λ k. list_any (is_at (nat_cmp k.1)) old.devices.keys ≡ true) (λ k. list_any (is_at (nat_cmp k.1)) new.devices.keys ≡ true) (λ k had. kept k.1 had) (keys_of old.shares.entries) c.self.invariant.of_devices)
    c.in_ok-add_share.ensures.kept.1 in
    let shared : All (λ device. list_any (λ (k : List ℕ × ℕ). k.1 == device) (keys_of (insert_entry by_share old.shares.entries key sharing)) ≡ true) (insert_key nat_cmp old.devices.keys key.1) =
    All-insert_key nat_cmp key.1 (λ device. list_any (λ (k : List ℕ × ℕ). k.1 == device) (keys_of (insert_entry by_share old.shares.entries key sharing)) ≡ true) old.devices.keys
    (All-weaker (λ device. list_any (λ (k : List ℕ × ℕ). k.1 == device) (keys_of old.shares.entries) ≡ true) (λ device. list_any (λ (k : List ℕ × ℕ). k.1 == device) (keys_of (insert_entry by_share old.shares.entries key sharing)) ≡ true) (λ device had. key_kept by_share (λ k. k.1 == device) old.shares.entries key sharing had) old.devices.keys c.self.invariant.sharing)
    (key_there by_share (λ k. k.1 == key.1) old.shares.entries key sharing (same key.1) is.new) in
    let joined : All (Joins new.devices.keys) old.links.keys =
    All-weaker (Joins old.devices.keys) (Joins new.devices.keys) (λ ends joins. (joins.0, kept ends.0 joins.1, kept ends.1 joins.2)) old.links.keys c.self.invariant.joined in
    record {
      few_folders = c.self.invariant.few_folders;
      named = c.self.invariant.named;
      few_devices = few_then _ _ MAX_DEVICES _ c.self.invariant.few_devices is.few c.in_ok-add_share.ensures.len;
      of_folders = rw c.in_ok-add_share.ensures.shares of_folders;
      of_devices = rw c.in_ok-add_share.ensures.shares of_devices;
      sharing = rw (c.in_ok-add_share.ensures.shares, c.in_ok-add_share.ensures.devices) shared;
      joined = joined;
      numbered = rw c.in_ok-add_share.ensures.devices (All-insert_key nat_cmp key.1 (λ device. 1 ≤ device) old.devices.keys c.self.invariant.numbered c.number-number.ensures.positive);
      indexed = rw c.in_ok-add_share.ensures.shares (All-values-insert_entry by_share key sharing (λ one. 1 ≤ one.index_id) old.shares.entries c.self.invariant.indexed is.index);
    }
