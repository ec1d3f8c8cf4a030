-- A line tells one fact at most, and a line of one group the fact that it reads.
use Rattle.std.proofs.Common.{◌≡◌, ◌∙◌, ℕ, List, Option, Some, None, inl, inr, refl, sym, ap, subst}
use Rattle.lan_base.specs.declared.name.Name.{Name}
use Rattle.lan_core.specs.declared.fact.Fact.{Fact}
use Rattle.lan_core.specs.declared.fact.Fact.TheVariants as shows
use Rattle.transcript.specs.Naming.{Reads}
use Rattle.transcript.specs.Rendering.{AreNames, Says, line as line_of}
use Rattle.transcript_reader.specs.declared.form.Form.{Form}
use Rattle.transcript_reader.specs.declared.form.Form.TheVariants.{OneGroup}
use Rattle.transcript_reader.specs.declared.group.Group.{Group}
use Rattle.transcript_reader.specs.declared.group.Group.TheVariants.{First, Second}
use Rattle.transcript_reader.specs.Forms.{form_then, marked, parted, placed}
use Rattle.transcript_reader.specs.Facts.{AreNamed, IsLineIn, IsOfOneGroup, Known, Names, Tells, in_one_group}
use Rattle.transcript_reader.proofs.OneLine.{some-same}

-- what the law of lines gives, as premises
pub record OneFact : Type 0 where
  pub one : (names : List (List ℕ)) (line : List ℕ) (after then : List (List ℕ)) (this that : Fact)
      → AreNames names → Reads names line after this → Reads names line then that
      → (after ≡ then) × (this ≡ that)
  pub named : (names : List (List ℕ)) (line : List ℕ) (after : List (List ℕ)) (fact : Fact)
      → AreNames names → Reads names line after fact → AreNames after

module _ (law : OneFact) where
  -- under names of stations a line is that of one fact
  one-says : (names : List (List ℕ)) (text : List ℕ) (this that : Fact) → AreNames names → Says names text this
      → Says names text that → this ≡ that
  one-says names text this that are s t =
      (law.one names text names names this that are (s, inl refl) (t, inl refl)).1

  one-line : (g : Group) (names after then : Names) (text : List ℕ) (this that : Fact) → AreNamed names
      → IsLineIn g names text after this → IsLineIn g names text then that → (after ≡ then) × (this ≡ that)
  one-line First names after then text this that are s t =
      let both = law.one names.first text after.first then.first this that are.0 s.0 t.0 in
      let rest : after.second ≡ then.second = s.1 ∙ sym t.1 in
      ((λ i. record { first = both.0 i; second = rest i }), both.1)
  one-line Second names after then text this that are s t =
      let both = law.one names.second text after.second then.second s.2.0 t.2.0 are.1 s.2.1 t.2.1 in
      let rest : after.first ≡ then.first = s.1 ∙ sym t.1 in
      ((λ i. record { first = rest i; second = both.0 i }), one-says names.first text this that are.0 s.0 t.0)

  pub one-course : (known : Known) (line : List ℕ) (after then : Known) (this that : Fact)
      → AreNamed known.names → Tells known line after this → Tells known line then that
      → (after ≡ then) × (this ≡ that)
  one-course known line after then this that are t u =
      let pairs : ◌≡◌ {A = Group × List ℕ} (t.group, t.text) (u.group, u.text) = some-same (sym t.part ∙ u.part) in
      let groups = ap (λ (p : Group × List ℕ). p.0) pairs in
      let texts = ap (λ (p : Group × List ℕ). p.1) pairs in
      let again = subst (λ (g : Group). IsLineIn g known.names t.text then.names u.own) (sym groups)
      (subst (λ (l : List ℕ). IsLineIn u.group known.names l then.names u.own) (sym texts) u.reads) in
      let both = one-line t.group known.names after.names then.names t.text t.own u.own are t.reads again in
      let forms : after.form ≡ then.form = t.form_is ∙ sym u.form_is in (
        (λ i. record { form = forms i; names = both.0 i }),
        t.fact_is ∙ ap (λ (g : Group). placed g t.own) groups ∙ ap (placed u.group) both.1 ∙ sym u.fact_is,
      )

  named-line : (g : Group) (names then : Names) (text : List ℕ) (own : Fact) → AreNamed names
      → IsLineIn g names text then own → AreNamed then
  named-line First names then text own are l =
      (law.named names.first text then.first own are.0 l.0, subst AreNames (sym l.1) are.1)
  named-line Second names then text own are l =
      (subst AreNames (sym l.1) are.0, law.named names.second text then.second l.2.0 are.1 l.2.1)

  pub names-then : (known : Known) (line : List ℕ) (then : Known) (fact : Fact) → AreNamed known.names
      → Tells known line then fact → AreNamed then.names
  names-then known line then fact are t = named-line t.group known.names then.names t.text t.own are t.reads

-- ---- a text of one group

-- the line of a fact has a letter where a space stands behind the number of a group
unmarked : (names : List (List ℕ)) (fact : Fact) → marked (line_of names fact) ≡ None
unfolding line_of
unmarked names (shows.Life s mi) = refl
unmarked names _ = refl

one-form : (form : Option Form) (line : List ℕ) → IsOfOneGroup form → marked line ≡ None
    → form_then form line ≡ OneGroup
one-form None line is none = rw none refl
one-form (Some f) line (inl e) none = absurd (cc e)
one-form (Some f) line (inr e) none = some-same e

pub one-tells : (known : Known) (line : List ℕ) (after : List Name) (fact : Fact) → IsOfOneGroup known.form
    → Reads known.names.first line after fact → Tells known line (in_one_group after known.names.second) fact
one-tells known line after fact is reads =
    let form = one-form known.form line is (subst (λ (l : List ℕ). marked l ≡ None) reads.0.1 (unmarked after fact)) in
    record {
      group = First;
      text = line;
      own = fact;
      part = ap (λ (f : Form). parted f line) form;
      reads = (reads, refl);
      form_is = ap (λ (f : Form). Some f) (sym form);
      fact_is = refl;
    }

pub one-reads : (known : Known) (line : List ℕ) (then : Known) (fact : Fact) → known.form ≡ Some OneGroup
    → Tells known line then fact → Reads known.names.first line then.names.first fact
one-reads known line then fact is t =
    let form : parted (form_then known.form line) line ≡ Some (First, line) =
    ap (λ (f : Option Form). parted (form_then f line) line) is in
    let pairs : ◌≡◌ {A = Group × List ℕ} (t.group, t.text) (First, line) = some-same (sym t.part ∙ form) in
    let reads : IsLineIn First known.names line then.names t.own =
    subst (λ (g : Group). IsLineIn g known.names line then.names t.own) (ap (λ (p : Group × List ℕ). p.0) pairs)
    (subst (λ (l : List ℕ). IsLineIn t.group known.names l then.names t.own) (ap (λ (p : Group × List ℕ). p.1) pairs) t.reads) in
    let own : fact ≡ t.own = t.fact_is ∙ ap (λ (p : Group × List ℕ). placed p.0 t.own) pairs in
    subst (λ (f : Fact). Reads known.names.first line then.names.first f) (sym own) reads.0
