mod SoughtJudged
mod Within
