use Rattle.std.proofs.Common.{◌≡◌, ◌≤◌, ◌∷◌, ◌++◌, [], List, cond, sym, subst}
use Rattle.std.specs.Prelude.{Option, Some}
use Rattle.std.specs.Map.{lookup}
use Rattle.std.specs.BTreeMap.{BTreeMap, is_at}
use Rattle.std.proofs.lemmas.List.Elements.{All-nil}
use Rattle.lan_base.specs.declared.address.Sci.{Sci}
use Rattle.tick_columns.specs.Columns.{IsThinned, Columns}
use Rattle.mark_notes.specs.declared.reuse.Reuse.{Reuse}
use Rattle.mark_notes.specs.Standing.{KeepsReuses, sci_cmp}
use Rattle.mark_notes.proofs.reuse.note_reuse.Goals as goal

pub returns : goal.returns
returns c = λ rs keeps behind.
    let r = c.args.reuse.now in
    let left = c.get_mut.follows.lender-at-none in
    let same : left ≡ c.args.senders.now = c.get_mut.follows.holds-at-none in
    let none : rs ≡ [] = subst (λ (o : Option (Columns Reuse)). KeepsReuses rs o) (sym c.in_default.ensures.value) keeps in
    record {
      columns = c.add-2.new.self;
      thinned = subst (λ (xs : List Reuse). IsThinned (λ (x : Reuse). x.packet) (xs ++ r ∷ []) c.add-2.new.self) (sym none)
          (c.in_ok-add.ensures.added [] c.new-columns.ensures.stands (All-nil (λ (x : Reuse). x.packet ≤ r.packet)));
      changed = λ sci.
          subst (λ (m : BTreeMap Sci (Columns Reuse)). lookup (is_at (sci_cmp sci)) c.insert.new.self.entries
          ≡ cond (is_at (sci_cmp r.sci) sci) (Some c.add-2.new.self) (lookup (is_at (sci_cmp sci)) m.entries)) same
          (c.in_ok-insert.ensures.updates.0 sci);
    }
