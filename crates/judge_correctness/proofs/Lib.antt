mod Lifting
