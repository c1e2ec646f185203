use Rattle.std.proofs.Common.{◌≡◌, List, sym, ap, ◌∙◌, subst}
use Rattle.assessment.specs.Assessment.{entries, IsAssessment}
use Rattle.assessment.specs.Plain.{plain_beside}
use Rattle.xpath_subset.specs.declared.paths.IdentityPaths.{IdentityPaths}
use Rattle.what_is_found.specs.Identity.{beside_of, with_codes}
use Rattle.what_is_found.proofs.laws.what_is_found_is_the_only_one.Goals as goal

pub returns : goal.returns
returns c = record {
  only = λ s d x y p q.
      let paths : q.identities ≡ p.identities = c.identities_go_by_the_set.ensures.one s.parts q.identities p.identities q.read p.read in
      let other : IsAssessment s (beside_of s p.identities d.forest q.found) d.forest q.found =
      subst (λ (identities : List IdentityPaths). IsAssessment s (beside_of s identities d.forest q.found) d.forest q.found) paths q.assessed in
      let mine = c.identity_codes_join_the_assessment.ensures.parted s p.identities d.forest p.found p.assessed in
      let yours = c.identity_codes_join_the_assessment.ensures.parted s p.identities d.forest q.found other in
      let plain : mine.0 ≡ yours.0 = c.the_assessment_is_the_only_one.ensures.only s plain_beside d.forest mine.0 yours.0 p.sound p.named mine.1 yours.1 in
      let one : p.found ≡ q.found = mine.2 ∙ (ap (with_codes s p.identities d.forest) plain ∙ sym yours.2) in
      p.entries_are ∙ (ap entries one ∙ sym q.entries_are);
}
