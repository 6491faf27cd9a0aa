mod FewWaypoints
mod Followed
