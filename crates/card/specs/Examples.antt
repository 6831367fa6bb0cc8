-- Document 01's examples 1 to 12 and those of request c, as one table over texts.
-- Assumes nothing: these are definitions.
use Rattle.std.specs.Prelude.{List, [], ◌∷◌, ◌++◌, ℕ, replicate}
use Prim.Native.Char.{code}
use Prim.Native.String.{String, [] as empty, ◌∷◌ as begins}
use Rattle.clusters.specs.declared.plan.Cluster.{Cluster}
use Rattle.matching.specs.Cut.{join}

-- The bytes of a text in ASCII.
abbrev pub ascii : String → List ℕ
ascii empty = []
ascii (begins c s) = code c ∷ ascii s

-- The name that the caller gives.
abbrev pub chr1 : List ℕ
chr1 = ascii "chr1"

-- A record's line: POS, REF, ALT and the genotype.
abbrev pub line : String → String → String → String → List ℕ
line pos ref alt genotype =
    ascii "chr1\t" ++ ascii pos ++ ascii "\t.\t" ++ ascii ref ++ ascii "\t" ++ ascii alt
    ++ ascii "\t.\t.\t.\tGT\t" ++ ascii genotype ++ ascii "\n"

-- Homozygous for its one ALT.
abbrev pub hom : String → String → String → List ℕ
hom pos ref alt = line pos ref alt "1/1"

-- A list's text: the header, with a sample named S, and records.
abbrev pub text : List (List ℕ) → List ℕ
text ls = ascii "##fileformat=VCFv4.2\n#CHROM\tPOS\tID\tREF\tALT\tQUAL\tFILTER\tINFO\tFORMAT\tS\n" ++ join ls

-- A cluster of the plan.
abbrev pub cluster : ℕ → ℕ → Cluster
cluster first count = record { first = first; count = count }

-- What an example says on a reference: of a list its normal text; or of two lists their plan, their marks and the score, which is summed
-- over decided clusters.
pub data Example : Type 0 where
  normal : String → List ℕ → List ℕ → Example
  marks : String → List ℕ → List ℕ → List Cluster → String → ℕ → Example

-- The record of examples 10 and 12; the same, heterozygous.
abbrev pub snp : List ℕ
snp = hom "2" "A" "C"

abbrev pub het : List ℕ
het = line "2" "A" "C" "0/1"

abbrev pub table : List Example
table =
    -- 1
    marks "GCATATG" (text (hom "2" "CAT" "C" ∷ [])) (text (hom "4" "TAT" "T" ∷ [])) (cluster 0 2 ∷ []) "++" 2
    -- 2
    ∷ normal "GCATATG" (text (hom "4" "TAT" "T" ∷ [])) (text (hom "2" "CAT" "C" ∷ []))
    -- 3
    ∷ normal "AACG" (text (hom "2" "AC" "C" ∷ [])) (text (hom "1" "AA" "A" ∷ []))
    -- 4
    ∷ normal "ACG" (text (hom "1" "AC" "C" ∷ [])) (text (hom "1" "AC" "C" ∷ []))
    -- 5
    ∷ normal "ACG" (text (hom "1" "ACG" "ACT" ∷ [])) (text (hom "3" "G" "T" ∷ []))
    -- 6
    ∷ marks "GCATATATATG" (text (hom "2" "CAT" "C" ∷ [])) (text (hom "8" "TAT" "T" ∷ [])) (cluster 0 2 ∷ []) "++" 2
    -- 7
    ∷ marks "TATGCAGT" (text (hom "1" "TAT" "T" ∷ [])) (text (hom "7" "G" "C" ∷ [])) (cluster 0 1 ∷ cluster 1 1 ∷ []) "00" 0
    -- 8
    ∷ marks "TATGCGT" (text (hom "1" "TAT" "T" ∷ [])) (text (hom "6" "G" "C" ∷ [])) (cluster 0 2 ∷ []) "00" 0
    -- 9
    ∷ marks "TGCCGT" (text (hom "2" "GCCG" "CCGA" ∷ [])) (text (hom "1" "TG" "T" ∷ hom "5" "G" "GA" ∷ [])) (cluster 0 3 ∷ []) "+++" 3
    -- 10
    ∷ marks "GAC" (text (het ∷ [])) (text (line "2" "A" "C" "1/0" ∷ [])) (cluster 0 2 ∷ []) "+-" 2
    ∷ marks "GAC" (text (het ∷ [])) (text (snp ∷ [])) (cluster 0 2 ∷ []) "00" 0
    -- 11
    ∷ marks "GAAC" (text (hom "1" "G" "GA" ∷ hom "2" "AA" "A" ∷ [])) (text []) (cluster 0 2 ∷ []) "++" 2
    -- 12
    ∷ marks "GAC" (text (replicate 6 snp)) (text (replicate 6 snp)) (cluster 0 12 ∷ []) "+00000+00000" 2
    ∷ marks "GAC" (text (replicate 7 snp)) (text (replicate 6 snp)) (cluster 0 13 ∷ []) "?????????????" 0
    -- c: a het deletion and a SNV under it on the other copy, against one entry of two ALTs that spells both
    ∷ marks "GACTC" (text (line "2" "ACT" "A" "0/1" ∷ line "3" "C" "G" "1/0" ∷ []))
    (text (line "2" "ACT" "AGT,A" "1/2" ∷ [])) (cluster 0 3 ∷ []) "+++" 3
    -- c: two het duplicates, against one homozygous entry, and against one het entry: on one copy only one of them may be chosen
    ∷ marks "GAC" (text (het ∷ het ∷ [])) (text (snp ∷ [])) (cluster 0 3 ∷ []) "+-+" 3
    ∷ marks "GAC" (text (het ∷ het ∷ [])) (text (het ∷ [])) (cluster 0 3 ∷ []) "+0+" 2
    ∷ []
