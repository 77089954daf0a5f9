use Rattle.std.proofs.Common.{◌≡◌, ◌≤◌, Option, Ok, Err, refl, sym, ap, subst, ◌∙◌}
use Rattle.std.specs.Prelude.{⊤}
use Rattle.std.specs.FinMap.{get, remove}
use Rattle.std.specs.Option.{option_copied}
use Rattle.bep_index.specs.Index.{after_put}
use Rattle.bep_record.specs.declared.node.NodeParts.{NodeParts}
use Rattle.bep_machine.specs.Replica.{Pull, node_at, own_at, pull_at}
use Rattle.bep_folder.specs.inner.Calls.{CallsSince}
use Rattle.bep_folder.proofs.CallFacts.{found, since_again}
use Rattle.bep_machine.specs.Pull.{IsAdopted}
use Rattle.bep_folder.specs.Held.{IsHeld, Held}
use Rattle.bep_folder.specs.inner.Ending.{IsReady, PutsAndWrites}
use Rattle.bep_folder.proofs.HeldFacts.{IsHeld-forgotten}
use Rattle.bep_machine.specs.declared.moved.Moved.{Moved}
use Rattle.bep_machine.specs.declared.moved.Moved.TheVariants.{Changed}
use Rattle.bep_folder.proofs.CopyFacts.{seen, wrote, wrote_none, fails_late, fails_late_given_up}
use Rattle.bep_folder.proofs.AdoptFacts.{settled, ends_early, writing_begins}
use Rattle.bep_folder.proofs.replica.Replica.adopt.Goals as goal

pub invariant_of-self : goal.invariant_of-self
invariant_of-self g c =
    subst (λ pulls. IsHeld c.self.inside.device c.self.inside.others c.self.inside.views pulls) (sym c.forget.ensures)
    (IsHeld-forgotten c.self.inside.device c.self.inside.others c.self.inside.views c.self.inside.pulls c.args.name.now c.self.invariant)

pub returns-in-Ok-clause-made : goal.returns-in-Ok-clause-made
returns-in-Ok-clause-made g c =
    let is = c.self.view_is in
    let pull = c.in-Some.pull.now in
    let name = c.args.name.now in
    let now = c.put_and_write.new.store in
    let same = c.in-Ok.ensures.puts.0 in
    let entry = c.in-Ok.ensures.puts.3.0 in
    let new : Held = record c.args.self.now { tables = record { kind = c.self.inside.kind; others = c.self.inside.others; index = c.put_and_write.new.index; views = c.self.inside.views; pulls = c.forget.new.pulls; store = now.contents }; trace = now.trace } in
    settled name pull (option_copied c.args.copy) c.args.self.now new same (option_copied c.args.node) c.self.inside.store now entry
    (writing_begins name pull c.args.self.now new same (option_copied c.args.node) c.self.inside.store now
    (ap (λ h. pull_at h.tables name) (sym is) ∙ sym c.in-Some.ensures) c.requires.node (subst (λ h. IsReady name (own_at h.tables name) pull h.tables.index same) is c.in-Ok.ensures.puts.1)
    (ap (λ h. h.tables.store) is) (ap (λ h. h.trace) is) (ap (λ h. h.made) is) c.requires.untroubled c.requires.few refl)
    (subst (λ h. IsAdopted (own_at h.tables name) pull.target entry) is c.in-Ok.ensures.puts.3.1)
    c.in-Ok.ensures.puts.2
    (ap (λ i. record new.tables { index = i }) c.in-Ok.ensures.puts.3.2 ∙ ap (λ p. record new.tables { index = after_put c.self.inside.index entry; pulls = p }) c.forget.ensures
    ∙ ap (λ h. record h.tables { index = after_put h.tables.index entry; pulls = remove h.tables.pulls name; store = now.contents }) is)

pub returns-in-Err-clause-made : goal.returns-in-Err-clause-made
returns-in-Err-clause-made g c =
    let is = c.self.view_is in
    let pull = c.in-Some.pull.now in
    let name = c.args.name.now in
    let now = c.put_and_write.new.store in
    let new : Held = record c.args.self.now { tables = record { kind = c.self.inside.kind; others = c.self.inside.others; index = c.put_and_write.new.index; views = c.self.inside.views; pulls = c.self.inside.pulls; store = now.contents }; faults = now.faults; made = now.made; trace = now.trace } in
    ends_early name pull (option_copied c.args.copy) c.args.self.now new (option_copied c.args.node) c.put_and_write.new.index c.self.inside.store now c.in-Err.error
    (ap (λ h. pull_at h.tables name) (sym is) ∙ sym c.in-Some.ensures) c.requires.node
    (ap (λ h. h.tables.store) is) (ap (λ h. h.trace) is) (ap (λ h. h.made) is) c.requires.untroubled c.requires.few refl
    (subst (λ h. PutsAndWrites name pull (option_copied c.args.copy) (option_copied c.args.node) h.tables.index c.put_and_write.new.index c.self.inside.store now (Err c.in-Err.error)) is c.in-Err.ensures.puts)
    (ap (λ h. record h.tables { index = c.put_and_write.new.index; store = now.contents }) is)

pub returns-in-Ok-clause-copied : goal.returns-in-Ok-clause-copied
returns-in-Ok-clause-copied g c =
    let is = c.self.view_is in
    let now = c.put_and_write.new.store in
    let new : Held = record { device = c.self.inside.device; folder = c.self.inside.folder; tables = record { kind = c.self.inside.kind; others = c.self.inside.others; index = c.put_and_write.new.index; views = c.self.inside.views; pulls = c.forget.new.pulls; store = now.contents }; faults = now.faults; made = now.made; trace = now.trace } in
    wrote c.args.name.now c.in-Some.pull.now c.in-Ok.ensures.puts.0 (option_copied c.args.copy) (option_copied c.args.node) c.args.self.now new c.self.inside.store now Changed
    (seen c.args.name.now c.args.copy (option_copied c.args.node) c.args.self.now new c.self.inside.store now c.requires.node c.requires.kept c.requires.free (ap (λ h. h.tables.store) is) (ap (λ h. h.trace) is) refl)
    refl c.in-Ok.ensures.puts.2

pub returns-in-Err-clause-copied : goal.returns-in-Err-clause-copied
returns-in-Err-clause-copied g c =
    let is = c.self.view_is in
    let name = c.args.name.now in
    let now = c.put_and_write.new.store in
    let new : Held = record { device = c.self.inside.device; folder = c.self.inside.folder; tables = record { kind = c.self.inside.kind; others = c.self.inside.others; index = c.put_and_write.new.index; views = c.self.inside.views; pulls = c.self.inside.pulls; store = now.contents }; faults = now.faults; made = now.made; trace = now.trace } in
    wrote_none name c.in-Some.pull.now (option_copied c.args.copy) (option_copied c.args.node) c.args.self.now new c.put_and_write.new.index c.self.inside.store now c.in-Err.error
    (seen name c.args.copy (option_copied c.args.node) c.args.self.now new c.self.inside.store now c.requires.node c.requires.kept c.requires.free (ap (λ h. h.tables.store) is) (ap (λ h. h.trace) is) refl)
    (subst (λ h. PutsAndWrites name c.in-Some.pull.now (option_copied c.args.copy) (option_copied c.args.node) h.tables.index c.put_and_write.new.index c.self.inside.store now (Err c.in-Err.error)) is c.in-Err.ensures.puts)
    (ap (λ h. record h.tables { index = c.put_and_write.new.index; store = now.contents }) is)

pub returns-in-Ok-clause-later : goal.returns-in-Ok-clause-later
returns-in-Ok-clause-later g c =
    let is = c.self.view_is in
    λ call before. fails_late c.args.name.now c.in-Some.pull.now (option_copied c.args.node) c.self.inside.store c.put_and_write.new.store
    (subst (λ h. h.made ≤ 2) (sym is) c.requires.few) (ap (λ h. h.trace.failed) is ∙ c.requires.untroubled) (option_copied c.args.copy) c.in-Ok.ensures.puts.0 c.in-Ok.ensures.puts.2
    call (subst (λ h. call ≤ h.made) (sym is) before)

pub returns-in-Err-clause-later : goal.returns-in-Err-clause-later
returns-in-Err-clause-later g c =
    let is = c.self.view_is in
    λ call before. fails_late_given_up c.args.name.now c.in-Some.pull.now (option_copied c.args.node) c.self.inside.store c.put_and_write.new.store
    (subst (λ h. h.made ≤ 2) (sym is) c.requires.few) (ap (λ h. h.trace.failed) is ∙ c.requires.untroubled) (option_copied c.args.copy) c.self.inside.index c.put_and_write.new.index c.in-Err.error c.in-Err.ensures.puts
    call (subst (λ h. call ≤ h.made) (sym is) before)

pub returns-in-Ok-clause-called : goal.returns-in-Ok-clause-called
returns-in-Ok-clause-called g c = λ pull pulled.
    let is = c.self.view_is in
    let name = c.args.name.now in
    let now = c.put_and_write.new.store in
    let same : c.in-Some.pull.now ≡ pull = found (pull_at c.args.self.now.tables name) c.in-Some.pull.now pull (ap (λ h. pull_at h.tables name) (sym is) ∙ sym c.in-Some.ensures) pulled in
    subst (λ (n : Option NodeParts). CallsSince c.args.self.now.made (own_at c.args.self.now.tables name) n pull (option_copied c.args.copy) now.made now.trace.failed (Ok Changed)) (sym c.requires.node)
    (subst (λ (h : Held). CallsSince h.made (own_at h.tables name) (option_copied c.args.node) pull (option_copied c.args.copy) now.made now.trace.failed (Ok Changed)) is
    (subst (λ (p : Pull). CallsSince {A = ⊤} c.self.inside.store.made (get c.self.inside.index.records name) (option_copied c.args.node) p (option_copied c.args.copy) now.made now.trace.failed (Ok tt)) same c.in-Ok.ensures.called))

pub returns-in-Err-clause-called : goal.returns-in-Err-clause-called
returns-in-Err-clause-called g c = λ pull pulled.
    let is = c.self.view_is in
    let name = c.args.name.now in
    let now = c.put_and_write.new.store in
    let same : c.in-Some.pull.now ≡ pull = found (pull_at c.args.self.now.tables name) c.in-Some.pull.now pull (ap (λ h. pull_at h.tables name) (sym is) ∙ sym c.in-Some.ensures) pulled in
    since_again ⊤ Moved c.args.self.now.made (own_at c.args.self.now.tables name) (node_at c.args.self.now.tables name) pull (option_copied c.args.copy) now.made now.trace.failed c.in-Err.error
    (subst (λ (n : Option NodeParts). CallsSince {A = ⊤} c.args.self.now.made (own_at c.args.self.now.tables name) n pull (option_copied c.args.copy) now.made now.trace.failed (Err c.in-Err.error)) (sym c.requires.node)
    (subst (λ (h : Held). CallsSince {A = ⊤} h.made (own_at h.tables name) (option_copied c.args.node) pull (option_copied c.args.copy) now.made now.trace.failed (Err c.in-Err.error)) is
    (subst (λ (p : Pull). CallsSince {A = ⊤} c.self.inside.store.made (get c.self.inside.index.records name) (option_copied c.args.node) p (option_copied c.args.copy) now.made now.trace.failed (Err c.in-Err.error)) same c.in-Err.ensures.called)))
