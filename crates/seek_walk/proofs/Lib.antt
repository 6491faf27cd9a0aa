mod WholeRuns
