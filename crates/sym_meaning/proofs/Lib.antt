mod HavocJudged
