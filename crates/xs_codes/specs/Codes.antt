-- The codes: the list of all of them in the order in which they are tried, and the text of each. The names are those
-- of the constraints of XML Schema; a name that begins with `x-` is this project's own.
use Rattle.std.specs.Prelude.{ℕ, List, [], ◌∷◌, ◌++◌, codes}
use Rattle.xs_codes.specs.declared.code.Code.{Code}
use Rattle.xs_codes.specs.declared.code.Code.TheVariants.{XShapeRoot, XShapeContent, XShapeText, XShapeAttribute, XShapeValue, XUnsupportedFloat, XUnsupportedDouble, XUnsupportedEntity, XUnsupportedEntities, XUnsupportedNotationType, XUnsupportedNotationElement, XUnsupportedTarget, XLimitOccurs, XLimitFields, XLimitValue, SrcElement1, SrcElement2_1, SrcElement2_2, SrcElement3, SrcAttribute1, SrcAttribute2, SrcAttribute3_1, SrcAttribute3_2, SrcAttribute4, SrcSimpleType2, SrcSimpleType3, SrcUnionMemberTypesOrSimpleTypes, PPropsCorrect2_1, XLocation, SrcInclude2_1, SrcRedefine3_1, SrcImport1_1, SrcImport1_2, SrcImport3_1, SrcExpredef, XRedefineCircle, SrcRedefine5, SrcRedefine6_1_1, SrcRedefine6_1_2, SrcRedefine7_1, SchPropsCorrect2, XLimitComponents, NoXmlns, NoXsi, SrcResolve, SrcResolve4, StPropsCorrect2, CtPropsCorrect3, MgPropsCorrect2, SrcAttributeGroup3, EPropsCorrect6, SrcCt1, SrcCt2, XSimpleBase, StPropsCorrect3, XSimpleFinal, CosListOfAtomic, CosApplicableFacets, SrcSingleFacetValue, XPattern, XUnsupportedBlock, XLimitPattern, XFacetLiteral, EnumerationValidRestriction, StRestrictFacets, WhiteSpaceValidRestriction, LengthValidRestriction, MinLengthValidRestriction, MaxLengthValidRestriction, TotalDigitsValidRestriction, FractionDigitsValidRestriction, LengthMinLengthMaxLength, MinLengthLessThanEqualToMaxLength, FractionDigitsTotalDigits, MaxInclusiveMaxExclusive, MinInclusiveMinExclusive, MinInclusiveLessThanEqualToMaxInclusive, MinExclusiveLessThanEqualToMaxExclusive, MinExclusiveLessThanMaxInclusive, MinInclusiveLessThanMaxExclusive, MaxInclusiveValidRestriction, MaxExclusiveValidRestriction, MinInclusiveValidRestriction, MinExclusiveValidRestriction, APropsCorrect2, APropsCorrect3, AuPropsCorrect2, AgPropsCorrect2, CtPropsCorrect4, AgPropsCorrect3, CtPropsCorrect5, SrcAttributeGroup2, SrcCt4, SrcCt5, EPropsCorrect2, CosValidDefault2_1, CosValidDefault2_2_2, EPropsCorrect5, CosCtExtends1_1, CosCtExtends1_4, DerivationOkRestriction1, DerivationOkRestriction2_1_1, DerivationOkRestriction2_1_2, DerivationOkRestriction2_1_3, DerivationOkRestriction2_2, DerivationOkRestriction3, DerivationOkRestriction4_1, DerivationOkRestriction4_2, DerivationOkRestriction4_3, DerivationOkRestriction5_2, DerivationOkRestriction5_3, DerivationOkRestriction5_4_1, SrcRedefine7_2_2, EPropsCorrect4, XLimitAll, CosAllLimited1, CosAllLimited2, XLimitPositions, XLimitStates, XLimitTable, CosElementConsistent, CosNonambig, CosParticleRestrict2, RcaseNameAndTypeOk, RcaseNsCompat, RcaseRecurseAsIfGroup, RcaseNsSubset, RcaseNsRecurseCheckCardinality, RcaseRecurse, RcaseRecurseUnordered, RcaseRecurseLax, RcaseMapAndSum, SrcRedefine6_2_2, CSelectorXpath, CFieldsXpaths, CPropsCorrect2, CvcElt1, CvcElt2, CvcElt4_1, CvcElt4_2, CvcElt4_3, CvcType2, CvcElt3_1, CvcElt3_2_1, CvcElt3_2_2, CvcType3_1_1, CvcType3_1_2, CvcType3_1_3, CvcComplexType2_1, CvcComplexType2_2, CvcComplexType2_3, CvcComplexType2_4, CvcComplexType4, CvcElt5_2_2_1, CvcElt5_2_2_2, CvcIdentityConstraint3, CvcIdentityConstraint4_1, CvcIdentityConstraint4_2_1, CvcIdentityConstraint4_2_2, CvcIdentityConstraint4_2_3, CvcIdentityConstraint4_3, CvcId1, CvcId2, CvcComplexType3_2_1, CvcComplexType3_2_2, CvcAttribute3, CvcAttribute4, CvcAu, CvcDatatypeValid1, CvcPatternValid, CvcLengthValid, CvcMinLengthValid, CvcMaxLengthValid, CvcEnumerationValid, CvcMaxInclusiveValid, CvcMaxExclusiveValid, CvcMinInclusiveValid, CvcMinExclusiveValid, CvcTotalDigitsValid, CvcFractionDigitsValid, XLimitItems}

-- phase 1: the shape of schema documents, and what is not supported
abbrev pub shape_codes : List Code
shape_codes =
    XShapeRoot ∷ XShapeContent ∷ XShapeText ∷ XShapeAttribute ∷ XShapeValue ∷ XUnsupportedFloat ∷
    XUnsupportedDouble ∷ XUnsupportedEntity ∷ XUnsupportedEntities ∷ XUnsupportedNotationType ∷
    XUnsupportedNotationElement ∷ XUnsupportedTarget ∷ XLimitOccurs ∷ XLimitFields ∷ XLimitValue ∷ SrcElement1 ∷
    SrcElement2_1 ∷ SrcElement2_2 ∷ SrcElement3 ∷ SrcAttribute1 ∷ SrcAttribute2 ∷ SrcAttribute3_1 ∷
    SrcAttribute3_2 ∷ SrcAttribute4 ∷ SrcSimpleType2 ∷ SrcSimpleType3 ∷ SrcUnionMemberTypesOrSimpleTypes ∷
    PPropsCorrect2_1 ∷ []

-- phase 2: include, import and redefine (Structures 4.2)
abbrev pub composition_codes : List Code
composition_codes =
    XLocation ∷ SrcInclude2_1 ∷ SrcRedefine3_1 ∷ SrcImport1_1 ∷ SrcImport1_2 ∷ SrcImport3_1 ∷ SrcExpredef ∷
    XRedefineCircle ∷ SrcRedefine5 ∷ SrcRedefine6_1_1 ∷ SrcRedefine6_1_2 ∷ SrcRedefine7_1 ∷ []

-- phase 3: names and references (Structures 3.15)
abbrev pub name_codes : List Code
name_codes =
    SchPropsCorrect2 ∷ XLimitComponents ∷ NoXmlns ∷ NoXsi ∷ SrcResolve ∷ SrcResolve4 ∷ []

-- phase 4: circles, and bases of the wrong kind
abbrev pub circle_codes : List Code
circle_codes =
    StPropsCorrect2 ∷ CtPropsCorrect3 ∷ MgPropsCorrect2 ∷ SrcAttributeGroup3 ∷ EPropsCorrect6 ∷ SrcCt1 ∷ SrcCt2
    ∷ []

-- phase 5: simple types and facets (Structures 3.14.6, Datatypes 4.3)
abbrev pub facet_codes : List Code
facet_codes =
    XSimpleBase ∷ StPropsCorrect3 ∷ XSimpleFinal ∷ CosListOfAtomic ∷ CosApplicableFacets ∷ SrcSingleFacetValue ∷
    XPattern ∷ XUnsupportedBlock ∷ XLimitPattern ∷ XFacetLiteral ∷ EnumerationValidRestriction ∷
    StRestrictFacets ∷ WhiteSpaceValidRestriction ∷ LengthValidRestriction ∷ MinLengthValidRestriction ∷
    MaxLengthValidRestriction ∷ TotalDigitsValidRestriction ∷ FractionDigitsValidRestriction ∷
    LengthMinLengthMaxLength ∷ MinLengthLessThanEqualToMaxLength ∷ FractionDigitsTotalDigits ∷
    MaxInclusiveMaxExclusive ∷ MinInclusiveMinExclusive ∷ MinInclusiveLessThanEqualToMaxInclusive ∷
    MinExclusiveLessThanEqualToMaxExclusive ∷ MinExclusiveLessThanMaxInclusive ∷
    MinInclusiveLessThanMaxExclusive ∷ MaxInclusiveValidRestriction ∷ MaxExclusiveValidRestriction ∷
    MinInclusiveValidRestriction ∷ MinExclusiveValidRestriction ∷ []

-- phase 6: attributes and value constraints (Structures 3.2.6, 3.3.6, 3.4.6)
abbrev pub attribute_codes : List Code
attribute_codes =
    APropsCorrect2 ∷ APropsCorrect3 ∷ AuPropsCorrect2 ∷ AgPropsCorrect2 ∷ CtPropsCorrect4 ∷ AgPropsCorrect3 ∷
    CtPropsCorrect5 ∷ SrcAttributeGroup2 ∷ SrcCt4 ∷ SrcCt5 ∷ EPropsCorrect2 ∷ CosValidDefault2_1 ∷
    CosValidDefault2_2_2 ∷ EPropsCorrect5 ∷ []

-- phase 7: complex types by extension and restriction (Structures 3.4.6)
abbrev pub derivation_codes : List Code
derivation_codes =
    CosCtExtends1_1 ∷ CosCtExtends1_4 ∷ DerivationOkRestriction1 ∷ DerivationOkRestriction2_1_1 ∷
    DerivationOkRestriction2_1_2 ∷ DerivationOkRestriction2_1_3 ∷ DerivationOkRestriction2_2 ∷
    DerivationOkRestriction3 ∷ DerivationOkRestriction4_1 ∷ DerivationOkRestriction4_2 ∷
    DerivationOkRestriction4_3 ∷ DerivationOkRestriction5_2 ∷ DerivationOkRestriction5_3 ∷
    DerivationOkRestriction5_4_1 ∷ SrcRedefine7_2_2 ∷ EPropsCorrect4 ∷ XLimitAll ∷ CosAllLimited1 ∷
    CosAllLimited2 ∷ []

-- phase 8: content models (Structures 3.8.6)
abbrev pub content_model_codes : List Code
content_model_codes =
    XLimitPositions ∷ XLimitStates ∷ XLimitTable ∷ CosElementConsistent ∷ CosNonambig ∷ []

-- phase 9: restriction of particles (Structures 3.9.6)
abbrev pub restriction_codes : List Code
restriction_codes =
    CosParticleRestrict2 ∷ RcaseNameAndTypeOk ∷ RcaseNsCompat ∷ RcaseRecurseAsIfGroup ∷ RcaseNsSubset ∷
    RcaseNsRecurseCheckCardinality ∷ RcaseRecurse ∷ RcaseRecurseUnordered ∷ RcaseRecurseLax ∷ RcaseMapAndSum ∷
    SrcRedefine6_2_2 ∷ []

-- phase 10: identity constraints of schemas (Structures 3.11.6)
abbrev pub identity_codes : List Code
identity_codes =
    CSelectorXpath ∷ CFieldsXpaths ∷ CPropsCorrect2 ∷ []

-- elements of a document (Structures 3.3.4, 3.4.4, 3.11.4, 3.15.4)
abbrev pub element_codes : List Code
element_codes =
    CvcElt1 ∷ CvcElt2 ∷ CvcElt4_1 ∷ CvcElt4_2 ∷ CvcElt4_3 ∷ CvcType2 ∷ CvcElt3_1 ∷ CvcElt3_2_1 ∷ CvcElt3_2_2 ∷
    CvcType3_1_1 ∷ CvcType3_1_2 ∷ CvcType3_1_3 ∷ CvcComplexType2_1 ∷ CvcComplexType2_2 ∷ CvcComplexType2_3 ∷
    CvcComplexType2_4 ∷ CvcComplexType4 ∷ CvcElt5_2_2_1 ∷ CvcElt5_2_2_2 ∷ CvcIdentityConstraint3 ∷
    CvcIdentityConstraint4_1 ∷ CvcIdentityConstraint4_2_1 ∷ CvcIdentityConstraint4_2_2 ∷
    CvcIdentityConstraint4_2_3 ∷ CvcIdentityConstraint4_3 ∷ CvcId1 ∷ CvcId2 ∷ []

-- attributes of a document (Structures 3.2.4, 3.4.4)
abbrev pub assessed_attribute_codes : List Code
assessed_attribute_codes =
    CvcComplexType3_2_1 ∷ CvcComplexType3_2_2 ∷ CvcAttribute3 ∷ CvcAttribute4 ∷ CvcAu ∷ []

-- values, after the code of the element or attribute that has them (Datatypes 4.1.4, 4.3)
abbrev pub value_codes : List Code
value_codes =
    CvcDatatypeValid1 ∷ CvcPatternValid ∷ CvcLengthValid ∷ CvcMinLengthValid ∷ CvcMaxLengthValid ∷
    CvcEnumerationValid ∷ CvcMaxInclusiveValid ∷ CvcMaxExclusiveValid ∷ CvcMinInclusiveValid ∷
    CvcMinExclusiveValid ∷ CvcTotalDigitsValid ∷ CvcFractionDigitsValid ∷ XLimitItems ∷ []

-- Every code, each once: a code that several phases can find stands where it is tried first.
abbrev pub all_codes : List Code
all_codes =
    shape_codes ++ (composition_codes ++ (name_codes ++ (circle_codes ++ (facet_codes ++ (attribute_codes
    ++ (derivation_codes ++ (content_model_codes ++ (restriction_codes ++ (identity_codes
    ++ (element_codes ++ (assessed_attribute_codes ++ value_codes)))))))))))

-- the place in that list, from 0; `code_order` ensures that it is
abbrev pub order_of : Code → ℕ
order_of XShapeRoot = 0
order_of XShapeContent = 1
order_of XShapeText = 2
order_of XShapeAttribute = 3
order_of XShapeValue = 4
order_of XUnsupportedFloat = 5
order_of XUnsupportedDouble = 6
order_of XUnsupportedEntity = 7
order_of XUnsupportedEntities = 8
order_of XUnsupportedNotationType = 9
order_of XUnsupportedNotationElement = 10
order_of XUnsupportedTarget = 11
order_of XLimitOccurs = 12
order_of XLimitFields = 13
order_of XLimitValue = 14
order_of SrcElement1 = 15
order_of SrcElement2_1 = 16
order_of SrcElement2_2 = 17
order_of SrcElement3 = 18
order_of SrcAttribute1 = 19
order_of SrcAttribute2 = 20
order_of SrcAttribute3_1 = 21
order_of SrcAttribute3_2 = 22
order_of SrcAttribute4 = 23
order_of SrcSimpleType2 = 24
order_of SrcSimpleType3 = 25
order_of SrcUnionMemberTypesOrSimpleTypes = 26
order_of PPropsCorrect2_1 = 27
order_of XLocation = 28
order_of SrcInclude2_1 = 29
order_of SrcRedefine3_1 = 30
order_of SrcImport1_1 = 31
order_of SrcImport1_2 = 32
order_of SrcImport3_1 = 33
order_of SrcExpredef = 34
order_of XRedefineCircle = 35
order_of SrcRedefine5 = 36
order_of SrcRedefine6_1_1 = 37
order_of SrcRedefine6_1_2 = 38
order_of SrcRedefine7_1 = 39
order_of SchPropsCorrect2 = 40
order_of XLimitComponents = 41
order_of NoXmlns = 42
order_of NoXsi = 43
order_of SrcResolve = 44
order_of SrcResolve4 = 45
order_of StPropsCorrect2 = 46
order_of CtPropsCorrect3 = 47
order_of MgPropsCorrect2 = 48
order_of SrcAttributeGroup3 = 49
order_of EPropsCorrect6 = 50
order_of SrcCt1 = 51
order_of SrcCt2 = 52
order_of XSimpleBase = 53
order_of StPropsCorrect3 = 54
order_of XSimpleFinal = 55
order_of CosListOfAtomic = 56
order_of CosApplicableFacets = 57
order_of SrcSingleFacetValue = 58
order_of XPattern = 59
order_of XUnsupportedBlock = 60
order_of XLimitPattern = 61
order_of XFacetLiteral = 62
order_of EnumerationValidRestriction = 63
order_of StRestrictFacets = 64
order_of WhiteSpaceValidRestriction = 65
order_of LengthValidRestriction = 66
order_of MinLengthValidRestriction = 67
order_of MaxLengthValidRestriction = 68
order_of TotalDigitsValidRestriction = 69
order_of FractionDigitsValidRestriction = 70
order_of LengthMinLengthMaxLength = 71
order_of MinLengthLessThanEqualToMaxLength = 72
order_of FractionDigitsTotalDigits = 73
order_of MaxInclusiveMaxExclusive = 74
order_of MinInclusiveMinExclusive = 75
order_of MinInclusiveLessThanEqualToMaxInclusive = 76
order_of MinExclusiveLessThanEqualToMaxExclusive = 77
order_of MinExclusiveLessThanMaxInclusive = 78
order_of MinInclusiveLessThanMaxExclusive = 79
order_of MaxInclusiveValidRestriction = 80
order_of MaxExclusiveValidRestriction = 81
order_of MinInclusiveValidRestriction = 82
order_of MinExclusiveValidRestriction = 83
order_of APropsCorrect2 = 84
order_of APropsCorrect3 = 85
order_of AuPropsCorrect2 = 86
order_of AgPropsCorrect2 = 87
order_of CtPropsCorrect4 = 88
order_of AgPropsCorrect3 = 89
order_of CtPropsCorrect5 = 90
order_of SrcAttributeGroup2 = 91
order_of SrcCt4 = 92
order_of SrcCt5 = 93
order_of EPropsCorrect2 = 94
order_of CosValidDefault2_1 = 95
order_of CosValidDefault2_2_2 = 96
order_of EPropsCorrect5 = 97
order_of CosCtExtends1_1 = 98
order_of CosCtExtends1_4 = 99
order_of DerivationOkRestriction1 = 100
order_of DerivationOkRestriction2_1_1 = 101
order_of DerivationOkRestriction2_1_2 = 102
order_of DerivationOkRestriction2_1_3 = 103
order_of DerivationOkRestriction2_2 = 104
order_of DerivationOkRestriction3 = 105
order_of DerivationOkRestriction4_1 = 106
order_of DerivationOkRestriction4_2 = 107
order_of DerivationOkRestriction4_3 = 108
order_of DerivationOkRestriction5_2 = 109
order_of DerivationOkRestriction5_3 = 110
order_of DerivationOkRestriction5_4_1 = 111
order_of SrcRedefine7_2_2 = 112
order_of EPropsCorrect4 = 113
order_of XLimitAll = 114
order_of CosAllLimited1 = 115
order_of CosAllLimited2 = 116
order_of XLimitPositions = 117
order_of XLimitStates = 118
order_of XLimitTable = 119
order_of CosElementConsistent = 120
order_of CosNonambig = 121
order_of CosParticleRestrict2 = 122
order_of RcaseNameAndTypeOk = 123
order_of RcaseNsCompat = 124
order_of RcaseRecurseAsIfGroup = 125
order_of RcaseNsSubset = 126
order_of RcaseNsRecurseCheckCardinality = 127
order_of RcaseRecurse = 128
order_of RcaseRecurseUnordered = 129
order_of RcaseRecurseLax = 130
order_of RcaseMapAndSum = 131
order_of SrcRedefine6_2_2 = 132
order_of CSelectorXpath = 133
order_of CFieldsXpaths = 134
order_of CPropsCorrect2 = 135
order_of CvcElt1 = 136
order_of CvcElt2 = 137
order_of CvcElt4_1 = 138
order_of CvcElt4_2 = 139
order_of CvcElt4_3 = 140
order_of CvcType2 = 141
order_of CvcElt3_1 = 142
order_of CvcElt3_2_1 = 143
order_of CvcElt3_2_2 = 144
order_of CvcType3_1_1 = 145
order_of CvcType3_1_2 = 146
order_of CvcType3_1_3 = 147
order_of CvcComplexType2_1 = 148
order_of CvcComplexType2_2 = 149
order_of CvcComplexType2_3 = 150
order_of CvcComplexType2_4 = 151
order_of CvcComplexType4 = 152
order_of CvcElt5_2_2_1 = 153
order_of CvcElt5_2_2_2 = 154
order_of CvcIdentityConstraint3 = 155
order_of CvcIdentityConstraint4_1 = 156
order_of CvcIdentityConstraint4_2_1 = 157
order_of CvcIdentityConstraint4_2_2 = 158
order_of CvcIdentityConstraint4_2_3 = 159
order_of CvcIdentityConstraint4_3 = 160
order_of CvcId1 = 161
order_of CvcId2 = 162
order_of CvcComplexType3_2_1 = 163
order_of CvcComplexType3_2_2 = 164
order_of CvcAttribute3 = 165
order_of CvcAttribute4 = 166
order_of CvcAu = 167
order_of CvcDatatypeValid1 = 168
order_of CvcPatternValid = 169
order_of CvcLengthValid = 170
order_of CvcMinLengthValid = 171
order_of CvcMaxLengthValid = 172
order_of CvcEnumerationValid = 173
order_of CvcMaxInclusiveValid = 174
order_of CvcMaxExclusiveValid = 175
order_of CvcMinInclusiveValid = 176
order_of CvcMinExclusiveValid = 177
order_of CvcTotalDigitsValid = 178
order_of CvcFractionDigitsValid = 179
order_of XLimitItems = 180

-- what is printed
abbrev pub text_of : Code → List ℕ
text_of XShapeRoot = codes "x-shape.root"
text_of XShapeContent = codes "x-shape.content"
text_of XShapeText = codes "x-shape.text"
text_of XShapeAttribute = codes "x-shape.attribute"
text_of XShapeValue = codes "x-shape.value"
text_of XUnsupportedFloat = codes "x-unsupported.float"
text_of XUnsupportedDouble = codes "x-unsupported.double"
text_of XUnsupportedEntity = codes "x-unsupported.ENTITY"
text_of XUnsupportedEntities = codes "x-unsupported.ENTITIES"
text_of XUnsupportedNotationType = codes "x-unsupported.NOTATION"
text_of XUnsupportedNotationElement = codes "x-unsupported.notation"
text_of XUnsupportedTarget = codes "x-unsupported.target"
text_of XLimitOccurs = codes "x-limit.occurs"
text_of XLimitFields = codes "x-limit.fields"
text_of XLimitValue = codes "x-limit.value"
text_of SrcElement1 = codes "src-element.1"
text_of SrcElement2_1 = codes "src-element.2.1"
text_of SrcElement2_2 = codes "src-element.2.2"
text_of SrcElement3 = codes "src-element.3"
text_of SrcAttribute1 = codes "src-attribute.1"
text_of SrcAttribute2 = codes "src-attribute.2"
text_of SrcAttribute3_1 = codes "src-attribute.3.1"
text_of SrcAttribute3_2 = codes "src-attribute.3.2"
text_of SrcAttribute4 = codes "src-attribute.4"
text_of SrcSimpleType2 = codes "src-simple-type.2"
text_of SrcSimpleType3 = codes "src-simple-type.3"
text_of SrcUnionMemberTypesOrSimpleTypes = codes "src-union-memberTypes-or-simpleTypes"
text_of PPropsCorrect2_1 = codes "p-props-correct.2.1"
text_of XLocation = codes "x-location"
text_of SrcInclude2_1 = codes "src-include.2.1"
text_of SrcRedefine3_1 = codes "src-redefine.3.1"
text_of SrcImport1_1 = codes "src-import.1.1"
text_of SrcImport1_2 = codes "src-import.1.2"
text_of SrcImport3_1 = codes "src-import.3.1"
text_of SrcExpredef = codes "src-expredef"
text_of XRedefineCircle = codes "x-redefine.circle"
text_of SrcRedefine5 = codes "src-redefine.5"
text_of SrcRedefine6_1_1 = codes "src-redefine.6.1.1"
text_of SrcRedefine6_1_2 = codes "src-redefine.6.1.2"
text_of SrcRedefine7_1 = codes "src-redefine.7.1"
text_of SchPropsCorrect2 = codes "sch-props-correct.2"
text_of XLimitComponents = codes "x-limit.components"
text_of NoXmlns = codes "no-xmlns"
text_of NoXsi = codes "no-xsi"
text_of SrcResolve = codes "src-resolve"
text_of SrcResolve4 = codes "src-resolve.4"
text_of StPropsCorrect2 = codes "st-props-correct.2"
text_of CtPropsCorrect3 = codes "ct-props-correct.3"
text_of MgPropsCorrect2 = codes "mg-props-correct.2"
text_of SrcAttributeGroup3 = codes "src-attribute_group.3"
text_of EPropsCorrect6 = codes "e-props-correct.6"
text_of SrcCt1 = codes "src-ct.1"
text_of SrcCt2 = codes "src-ct.2"
text_of XSimpleBase = codes "x-simple.base"
text_of StPropsCorrect3 = codes "st-props-correct.3"
text_of XSimpleFinal = codes "x-simple.final"
text_of CosListOfAtomic = codes "cos-list-of-atomic"
text_of CosApplicableFacets = codes "cos-applicable-facets"
text_of SrcSingleFacetValue = codes "src-single-facet-value"
text_of XPattern = codes "x-pattern"
text_of XUnsupportedBlock = codes "x-unsupported.block"
text_of XLimitPattern = codes "x-limit.pattern"
text_of XFacetLiteral = codes "x-facet.literal"
text_of EnumerationValidRestriction = codes "enumeration-valid-restriction"
text_of StRestrictFacets = codes "st-restrict-facets"
text_of WhiteSpaceValidRestriction = codes "whiteSpace-valid-restriction"
text_of LengthValidRestriction = codes "length-valid-restriction"
text_of MinLengthValidRestriction = codes "minLength-valid-restriction"
text_of MaxLengthValidRestriction = codes "maxLength-valid-restriction"
text_of TotalDigitsValidRestriction = codes "totalDigits-valid-restriction"
text_of FractionDigitsValidRestriction = codes "fractionDigits-valid-restriction"
text_of LengthMinLengthMaxLength = codes "length-minLength-maxLength"
text_of MinLengthLessThanEqualToMaxLength = codes "minLength-less-than-equal-to-maxLength"
text_of FractionDigitsTotalDigits = codes "fractionDigits-totalDigits"
text_of MaxInclusiveMaxExclusive = codes "maxInclusive-maxExclusive"
text_of MinInclusiveMinExclusive = codes "minInclusive-minExclusive"
text_of MinInclusiveLessThanEqualToMaxInclusive = codes "minInclusive-less-than-equal-to-maxInclusive"
text_of MinExclusiveLessThanEqualToMaxExclusive = codes "minExclusive-less-than-equal-to-maxExclusive"
text_of MinExclusiveLessThanMaxInclusive = codes "minExclusive-less-than-maxInclusive"
text_of MinInclusiveLessThanMaxExclusive = codes "minInclusive-less-than-maxExclusive"
text_of MaxInclusiveValidRestriction = codes "maxInclusive-valid-restriction"
text_of MaxExclusiveValidRestriction = codes "maxExclusive-valid-restriction"
text_of MinInclusiveValidRestriction = codes "minInclusive-valid-restriction"
text_of MinExclusiveValidRestriction = codes "minExclusive-valid-restriction"
text_of APropsCorrect2 = codes "a-props-correct.2"
text_of APropsCorrect3 = codes "a-props-correct.3"
text_of AuPropsCorrect2 = codes "au-props-correct.2"
text_of AgPropsCorrect2 = codes "ag-props-correct.2"
text_of CtPropsCorrect4 = codes "ct-props-correct.4"
text_of AgPropsCorrect3 = codes "ag-props-correct.3"
text_of CtPropsCorrect5 = codes "ct-props-correct.5"
text_of SrcAttributeGroup2 = codes "src-attribute_group.2"
text_of SrcCt4 = codes "src-ct.4"
text_of SrcCt5 = codes "src-ct.5"
text_of EPropsCorrect2 = codes "e-props-correct.2"
text_of CosValidDefault2_1 = codes "cos-valid-default.2.1"
text_of CosValidDefault2_2_2 = codes "cos-valid-default.2.2.2"
text_of EPropsCorrect5 = codes "e-props-correct.5"
text_of CosCtExtends1_1 = codes "cos-ct-extends.1.1"
text_of CosCtExtends1_4 = codes "cos-ct-extends.1.4"
text_of DerivationOkRestriction1 = codes "derivation-ok-restriction.1"
text_of DerivationOkRestriction2_1_1 = codes "derivation-ok-restriction.2.1.1"
text_of DerivationOkRestriction2_1_2 = codes "derivation-ok-restriction.2.1.2"
text_of DerivationOkRestriction2_1_3 = codes "derivation-ok-restriction.2.1.3"
text_of DerivationOkRestriction2_2 = codes "derivation-ok-restriction.2.2"
text_of DerivationOkRestriction3 = codes "derivation-ok-restriction.3"
text_of DerivationOkRestriction4_1 = codes "derivation-ok-restriction.4.1"
text_of DerivationOkRestriction4_2 = codes "derivation-ok-restriction.4.2"
text_of DerivationOkRestriction4_3 = codes "derivation-ok-restriction.4.3"
text_of DerivationOkRestriction5_2 = codes "derivation-ok-restriction.5.2"
text_of DerivationOkRestriction5_3 = codes "derivation-ok-restriction.5.3"
text_of DerivationOkRestriction5_4_1 = codes "derivation-ok-restriction.5.4.1"
text_of SrcRedefine7_2_2 = codes "src-redefine.7.2.2"
text_of EPropsCorrect4 = codes "e-props-correct.4"
text_of XLimitAll = codes "x-limit.all"
text_of CosAllLimited1 = codes "cos-all-limited.1"
text_of CosAllLimited2 = codes "cos-all-limited.2"
text_of XLimitPositions = codes "x-limit.positions"
text_of XLimitStates = codes "x-limit.states"
text_of XLimitTable = codes "x-limit.table"
text_of CosElementConsistent = codes "cos-element-consistent"
text_of CosNonambig = codes "cos-nonambig"
text_of CosParticleRestrict2 = codes "cos-particle-restrict.2"
text_of RcaseNameAndTypeOk = codes "rcase-NameAndTypeOK"
text_of RcaseNsCompat = codes "rcase-NSCompat"
text_of RcaseRecurseAsIfGroup = codes "rcase-RecurseAsIfGroup"
text_of RcaseNsSubset = codes "rcase-NSSubset"
text_of RcaseNsRecurseCheckCardinality = codes "rcase-NSRecurseCheckCardinality"
text_of RcaseRecurse = codes "rcase-Recurse"
text_of RcaseRecurseUnordered = codes "rcase-RecurseUnordered"
text_of RcaseRecurseLax = codes "rcase-RecurseLax"
text_of RcaseMapAndSum = codes "rcase-MapAndSum"
text_of SrcRedefine6_2_2 = codes "src-redefine.6.2.2"
text_of CSelectorXpath = codes "c-selector-xpath"
text_of CFieldsXpaths = codes "c-fields-xpaths"
text_of CPropsCorrect2 = codes "c-props-correct.2"
text_of CvcElt1 = codes "cvc-elt.1"
text_of CvcElt2 = codes "cvc-elt.2"
text_of CvcElt4_1 = codes "cvc-elt.4.1"
text_of CvcElt4_2 = codes "cvc-elt.4.2"
text_of CvcElt4_3 = codes "cvc-elt.4.3"
text_of CvcType2 = codes "cvc-type.2"
text_of CvcElt3_1 = codes "cvc-elt.3.1"
text_of CvcElt3_2_1 = codes "cvc-elt.3.2.1"
text_of CvcElt3_2_2 = codes "cvc-elt.3.2.2"
text_of CvcType3_1_1 = codes "cvc-type.3.1.1"
text_of CvcType3_1_2 = codes "cvc-type.3.1.2"
text_of CvcType3_1_3 = codes "cvc-type.3.1.3"
text_of CvcComplexType2_1 = codes "cvc-complex-type.2.1"
text_of CvcComplexType2_2 = codes "cvc-complex-type.2.2"
text_of CvcComplexType2_3 = codes "cvc-complex-type.2.3"
text_of CvcComplexType2_4 = codes "cvc-complex-type.2.4"
text_of CvcComplexType4 = codes "cvc-complex-type.4"
text_of CvcElt5_2_2_1 = codes "cvc-elt.5.2.2.1"
text_of CvcElt5_2_2_2 = codes "cvc-elt.5.2.2.2"
text_of CvcIdentityConstraint3 = codes "cvc-identity-constraint.3"
text_of CvcIdentityConstraint4_1 = codes "cvc-identity-constraint.4.1"
text_of CvcIdentityConstraint4_2_1 = codes "cvc-identity-constraint.4.2.1"
text_of CvcIdentityConstraint4_2_2 = codes "cvc-identity-constraint.4.2.2"
text_of CvcIdentityConstraint4_2_3 = codes "cvc-identity-constraint.4.2.3"
text_of CvcIdentityConstraint4_3 = codes "cvc-identity-constraint.4.3"
text_of CvcId1 = codes "cvc-id.1"
text_of CvcId2 = codes "cvc-id.2"
text_of CvcComplexType3_2_1 = codes "cvc-complex-type.3.2.1"
text_of CvcComplexType3_2_2 = codes "cvc-complex-type.3.2.2"
text_of CvcAttribute3 = codes "cvc-attribute.3"
text_of CvcAttribute4 = codes "cvc-attribute.4"
text_of CvcAu = codes "cvc-au"
text_of CvcDatatypeValid1 = codes "cvc-datatype-valid.1"
text_of CvcPatternValid = codes "cvc-pattern-valid"
text_of CvcLengthValid = codes "cvc-length-valid"
text_of CvcMinLengthValid = codes "cvc-minLength-valid"
text_of CvcMaxLengthValid = codes "cvc-maxLength-valid"
text_of CvcEnumerationValid = codes "cvc-enumeration-valid"
text_of CvcMaxInclusiveValid = codes "cvc-maxInclusive-valid"
text_of CvcMaxExclusiveValid = codes "cvc-maxExclusive-valid"
text_of CvcMinInclusiveValid = codes "cvc-minInclusive-valid"
text_of CvcMinExclusiveValid = codes "cvc-minExclusive-valid"
text_of CvcTotalDigitsValid = codes "cvc-totalDigits-valid"
text_of CvcFractionDigitsValid = codes "cvc-fractionDigits-valid"
text_of XLimitItems = codes "x-limit.items"
