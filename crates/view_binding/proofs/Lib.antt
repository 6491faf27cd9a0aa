mod FewWaypoints
