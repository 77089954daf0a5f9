-- What an index is, or what a device knows of another's index.
use Rattle.std.specs.Prelude.{◌≡◌, ℕ, Some, refl}
use Rattle.std.specs.Coded.{Coded, code_by, coded×, coded_ℕ, coded_list}
use Rattle.std.specs.FinMap.{get, code}
use Rattle.bep_map.specs.NameMap.{ByName}
use Rattle.bep_record.specs.declared.entry.Entry.{Entry}

-- the point, which is the index id with the greatest sequence (BEP v1, 'Fields (ClusterConfig)', fields 'index_id' and
-- 'max_sequence'), and the record of each name
pub record Listing : Type 0 where
  pub id : ℕ
  pub sequence : ℕ
  pub records : ByName Entry

-- a listing is stored as its parts, by the code of an entry
abbrev pub listing_code : Coded Entry → Coded Listing
listing_code entry =
    code_by (ℕ × (ℕ × ByName Entry)) (coded× coded_ℕ (coded× coded_ℕ (code (coded_list coded_ℕ) entry))) (λ l. (l.id, (l.sequence, l.records))) (λ p. record { id = p.0; sequence = p.1.0; records = p.1.1 }) (λ _. refl)

-- the entry is the one at its name
abbrev pub IsRecord : ByName Entry → Entry → Type 0
IsRecord records entry = get records entry.name ≡ Some entry
