-- `matching::search::search` ends: the measure is the number of entries left.
use Rattle.matching.proofs.search.+search.Given as goal

abbrev pub decreases-search : goal.decreases-search
decreases-search l = l.left
