-- Versions in line, and what a record is to a device that may want it.
use Rattle.std.proofs.Common.{◌≡◌, ◌⊎◌, ℕ, List, Option, Some, None, ⊎_elim, arith}
use Rattle.bep_record.specs.declared.entry.Entry.{Entry}
use Rattle.bep_record.specs.Content.{content_of}
use Rattle.bep_record.specs.Vector.{IsAtMost}
use Rattle.bep_model.specs.Free.{IsNews}
use Rattle.bep_model.specs.Firm.{AreEqual}
use Rattle.bep_model.proofs.StaysFacts.{not_deleted}
use Rattle.bep_machine.specs.Effects.{content_owned}
use Rattle.bep_machine.specs.Replica.{version_of}
use Rattle.bep_converge.specs.Prevails.{IsNoLocalChange, IsAtTop}
use Rattle.bep_converge.specs.Orderly.{IsUpToMerge}
use Rattle.bep_converge.specs.Rises.{Supersedes}

-- ---- versions

pub equal_itself : (u : List (ℕ × ℕ)) → AreEqual u u
equal_itself u = (λ id. omega arith, λ id. omega arith)

pub equal_through : (u v w : List (ℕ × ℕ)) → AreEqual u v → AreEqual v w → AreEqual u w
equal_through u v w one two = (
  λ id. let a = one.0 id in let b = two.0 id in omega arith,
  λ id. let a = one.1 id in let b = two.1 id in omega arith,
)

-- versions that are equal to others stand to each other as these do
pub at_most_as : (u v was_u was_v : List (ℕ × ℕ)) → AreEqual u was_u → AreEqual v was_v → IsAtMost was_u was_v → IsAtMost u v
at_most_as u v was_u was_v same_u same_v within id = let a = same_u.0 id in let b = same_v.1 id in let c = within id in omega arith

-- where the target is above the own version, all from the target's to the merge are the target's
pub merge_is_target : (own target version : List (ℕ × ℕ)) → IsAtMost own target → IsUpToMerge own target version → AreEqual version target
merge_is_target own target version within between = (
  λ id. let a = within id in let b = between.up_to_merge id in omega arith,
  between.from_target,
)

-- ---- news

-- in a chain what is news is above the own record
pub news_is_above : (own : Option Entry) (entry : Entry) → IsNoLocalChange own →
    IsAtMost (version_of own) entry.version ⊎ IsAtMost entry.version (version_of own) → IsNews own entry → IsAtMost (version_of own) entry.version
news_is_above None entry valid in_line news = λ id. omega arith
news_is_above (Some own) entry valid in_line news =
    ⊎_elim
    (λ within. within)
    (λ behind. absurd (⊎_elim (λ local. cc) (λ newer. newer behind) news))
    in_line

pub news_supersedes : (own : Option Entry) (entry : Entry) → IsNoLocalChange own →
    IsAtMost (version_of own) entry.version → IsNews own entry → Supersedes own entry
news_supersedes None entry valid within news = tt
news_supersedes (Some own) entry valid within news = (within, ⊎_elim (λ local. absurd (cc)) (λ newer. newer) news)

-- at the top nothing is news that has another content, and with a record nothing at all
pub no_news_at_top : (own : Option Entry) (top entry : Entry) → IsNoLocalChange own → IsAtTop own top → IsAtMost entry.version top.version →
    content_of entry ≡ content_owned own → ¬ IsNews own entry
no_news_at_top None top entry valid at within same news = not_deleted entry news same
no_news_at_top (Some own) top entry valid at within same news =
    ⊎_elim (λ local. cc) (λ newer. newer (λ id. let a = within id in let b = at.1 id in omega arith)) news

-- what supersedes a record does so under an equal version
pub supersedes_as : (own : Option Entry) (entry was : Entry) → AreEqual entry.version was.version → Supersedes own entry → Supersedes own was
supersedes_as None entry was same above = tt
supersedes_as (Some own) entry was same above = (
  λ id. let a = above.0 id in let b = same.0 id in omega arith,
  λ back. above.1 (λ id. let a = back id in let b = same.0 id in omega arith),
)

-- and what supersedes a record that does so
pub supersedes_through : (own : Option Entry) (between entry : Entry) → Supersedes own between → Supersedes (Some between) entry → Supersedes own entry
supersedes_through None between entry one two = tt
supersedes_through (Some own) between entry one two = (
  λ id. let a = one.0 id in let b = two.0 id in omega arith,
  λ back. one.1 (λ id. let a = back id in let b = two.0 id in omega arith),
)
