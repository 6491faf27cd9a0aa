use Rattle.sat_search.proofs.search.Search.+leads_back.Given as goal

abbrev pub decreases-leads_back : goal.decreases-leads_back
decreases-leads_back l = l.depth
