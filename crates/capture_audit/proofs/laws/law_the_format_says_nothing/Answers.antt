use Rattle.std.proofs.Common.{◌∙◌, sym}
use Rattle.capture_audit.proofs.OneReport.{IsOneList, one-report, said-of, whole-of}
use Rattle.capture_audit.proofs.laws.law_the_format_says_nothing.Goals as goal

pub returns : goal.returns
returns c = record {
  packets = λ asks packets text other one two blamed also left right held then later said whole too apart away.
      one-report c.law_one_key_for_one_wrap.ensures asks packets text other said (c.law_groups_are_keyed.ensures text) whole too
      one two apart away left right held then later blamed also;
  formats = λ asks packets keys file another text other one two blamed also left right held then later is are input put apart away.
      let lists : IsOneList = (c.law_one_list.ensures.classic, c.law_one_list.ensures.blocks) in
      let alone = c.law_parted.ensures.alone in
      one-report c.law_one_key_for_one_wrap.ensures asks packets text other
      (said-of alone keys file text input ∙ sym (said-of alone keys another other put)) (c.law_groups_are_keyed.ensures text)
      (whole-of lists alone packets keys file text input is) (whole-of lists alone packets keys another other put are)
      one two apart away left right held then later blamed also;
}
