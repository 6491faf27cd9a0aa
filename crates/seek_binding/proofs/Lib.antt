mod BoundSegments
